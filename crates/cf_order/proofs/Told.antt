-- What is known once a pass was compared with the owner.
use Rattle.std.proofs.Common.{◌≡◌, ℕ, true, List, subst}
use mathlib.Core.List.{IsPrefix}
use Rattle.cf_protocol.specs.LogEntry.{Entry}
use Rattle.cf_order.specs.View.{View}
use Rattle.cf_order.specs.ShardStep.{word_given, compared, Knows, IsBehind}
use Rattle.cf_order.proofs.Prefixes.{prefix_trans}

pub is_behind : (o v t : View) (n : ℕ) → t ≡ compared o (word_given v v.share) → Knows t n → o.owns ≡ true
    → o.found ≡ o.log → IsPrefix v.log v.found → IsBehind o v
is_behind o v t n is knows owns whole seen =
    let k : Knows (compared o (word_given v v.share)) n = subst (λ (u : View). Knows u n) is knows in
    let found : IsPrefix v.found o.log = subst (λ (l : List Entry). IsPrefix v.found l) whole k.met in
    record { seen = prefix_trans v.log v.found o.log seen found; found = found; share = k.own owns }
