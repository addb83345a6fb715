-- The loop keeps that none of the channels so far asks under this id; the one that does is the answer.
use Rattle.std.proofs.Common.{◌≡◌, ◌∙◌, [], map, sym, ap, subst, rules, All, Bor}
use Rattle.std.specs.String.{string_bytes}
use Rattle.std.specs.Map.Iter.{deref_pair}
use Rattle.std.proofs.lemmas.Map.Iter.{iter_end}
use Rattle.std.specs.declared.string.String.{String}
use Rattle.std.specs.declared.alloc.Global.{Global}
use Rattle.std.proofs.lemmas.List.Elements.{All-map, All-append, All-cons, All-nil}
use Rattle.cf_client.specs.declared.channels.Mode.{Mode as CodeMode}
use Rattle.cf_client.specs.ClientCalls.{asks_under}
use Rattle.cf_client.specs.Draft.{drafted_mode}
use Rattle.cf_client.proofs.Drafting.{NoneAsks, none_asks}
use Rattle.cf_client.proofs.draft.Draft.channel_asking.Goals as goal

pub returns-then-is_asking-clause-some : goal.returns-then-is_asking-clause-some
returns-then-is_asking-clause-some c =
    ap (asks_under c.args.id) (sym c.mode_at.ensures) ∙ sym c.is_asking.ensures ∙ c.if-is_asking.true

pub returns-clause-none : goal.returns-clause-none
returns-clause-none c =
    let base = c.args.known.now.channels in
    let changed = c.args.self.now.changed in
    let all : map deref_pair c.loop-channel.yielded ≡ base.entries = search (rules, iter_end) in
    none_asks base changed c.args.id
    (subst (λ es. All (λ e. NoneAsks base changed c.args.id (string_bytes e.0)) es) all
    (All-map (λ e. NoneAsks base changed c.args.id (string_bytes e.0)) deref_pair c.loop-channel.yielded
    c.loop-channel.invariant))

pub loop-channel-preserved : goal.loop-channel-preserved
loop-channel-preserved c =
    let here : NoneAsks c.args.known.now.channels c.args.self.now.changed c.args.id
    (string_bytes c.in-Some.channel.now) =
    ap (λ n. asks_under c.args.id (drafted_mode c.args.known.now.channels c.args.self.now.changed n))
    (sym c.as_str-name.ensures.value)
    ∙ ap (asks_under c.args.id) (sym c.mode_at.ensures) ∙ sym c.is_asking.ensures ∙ c.if-is_asking.false in
    let asks_not =
    λ (p : Bor (String Global) × Bor CodeMode). NoneAsks c.args.known.now.channels c.args.self.now.changed c.args.id
    (string_bytes p.0.now) in
    All-append asks_not c.loop-channel.yielded _ c.loop-channel.invariant
    (All-cons asks_not (c.in-Some.channel, c.in-Some._mode) [] here (All-nil asks_not))
