-- By whether the channel has a number: with it, or with one that is new, there is one row more by names, or none.
use Rattle.std.proofs.Common.{◌∙◌, ◌<◌, List, length, sym, ap, subst, arith, Result, Ok, Err, OnOk, OnErr}
use Rattle.std.specs.Prelude.{unwrap_or, []}
use Rattle.std.proofs.lemmas.List.{length-map}
use Rattle.std.proofs.lemmas.Result.{on_ok_weaker, on_err_weaker}
use Rattle.cf_subs.specs.declared.table.Row.{Row}
use Rattle.cf_subscribers.specs.Follows.{AreFollows, follow, follows}
use Rattle.cf_model.specs.Streams.{most_rows}
use Rattle.cf_subscribers.specs.Names.{AreUsed, by_name, name_at, named, number_at}
use Rattle.cf_subscribers.proofs.ByName.{covers_known, follows_known, with_named}
use Rattle.cf_subscribers.proofs.Keeping.{AreFollows-push}
use Rattle.cf_subscribers.proofs.subscribers.Subscribers.add.Goals as goal

-- what holds of both outcomes
settled : {T E : Type 0} {A : Type 0} (r : Result T E) → OnOk r A → OnErr r A → A
settled (Ok x) a b = a
settled (Err y) a b = b

pub add-requires : goal.add-requires
add-requires c =
    let ns = c.self.inside.names in record {
      absent =
          sym (follows_known (number_at ns) (name_at ns) c.self.invariant.numbered c.args.channel.now c.self.inside.rows
          c.in-Some.number c.args.session c.self.invariant.used (sym c.number.ensures ∙ c.in-Some.is))
          ∙ ap (λ l. follows l c.args.channel.now c.args.session) c.self.view_is ∙ c.requires.absent;
    }

pub returns-in-Some-clause-rows : goal.returns-in-Some-clause-rows
returns-in-Some-clause-rows c =
    let ns = c.self.inside.names in let rs = c.self.inside.rows in let before = named ns rs in
    let same = length-map rs (λ r. follow (unwrap_or (name_at c.self.inside.names r.channel) []) r.session) in
    let counted = c.len.ensures.counted in let below = c.if-len-ge-MOST_ROWS.false in
    let room : length before < most_rows = omega (arith, same, counted, below) in
    let there = c.self.invariant.numbered.there c.args.channel.now c.in-Some.number
    (sym c.number.ensures ∙ c.in-Some.is) in
    settled c.add.result
    (on_ok_weaker c.add.result
    (λ e. AreFollows-push before _ c.args.channel.now c.args.session c.self.invariant.follows
    (ap (λ l. follows l c.args.channel.now c.args.session) c.self.view_is ∙ c.requires.absent) room
    (ap (by_name (name_at ns)) e ∙ with_named (name_at ns) rs c.in-Some.number c.args.session c.args.channel.now there))
    c.add.ensures.ok)
    (on_err_weaker c.add.result (λ e. subst (λ (l : List Row). AreFollows (named ns l)) (sym e)
    c.self.invariant.follows) c.add.ensures.err)

pub invariant_of-self : goal.invariant_of-self
invariant_of-self c =
    let ns = c.self.inside.names in let rs = c.self.inside.rows in
    let there = c.self.invariant.numbered.there c.args.channel.now c.in-Some.number
    (sym c.number.ensures ∙ c.in-Some.is) in record {
      numbered = c.self.invariant.numbered;
      used =
          settled c.add.result
          (on_ok_weaker c.add.result (λ e. subst (λ (l : List Row). AreUsed ns l) (sym e)
          (covers_known (name_at ns) rs c.in-Some.number c.args.session c.args.channel.now c.self.invariant.used
          there)) c.add.ensures.ok)
          (on_err_weaker c.add.result (λ e. subst (λ (l : List Row). AreUsed ns l) (sym e) c.self.invariant.used)
          c.add.ensures.err);
      follows = returns-in-Some-clause-rows c;
    }

pub returns-in-None-clause-rows : goal.returns-in-None-clause-rows
returns-in-None-clause-rows c =
    let before = named c.self.inside.names c.self.inside.rows in
    let same = length-map c.self.inside.rows (λ r. follow (unwrap_or (name_at c.self.inside.names r.channel) [])
    r.session) in
    let counted = c.len.ensures.counted in let below = c.if-len-ge-MOST_ROWS.false in
    let room : length before < most_rows = omega (arith, same, counted, below) in
    settled c.add_first_row.result
    (on_ok_weaker c.add_first_row.result
    (AreFollows-push before _ c.args.channel.now c.args.session c.self.invariant.follows
    (ap (λ l. follows l c.args.channel.now c.args.session) c.self.view_is ∙ c.requires.absent) room)
    c.add_first_row.ensures.ok)
    (on_err_weaker c.add_first_row.result (λ e. subst AreFollows (sym e) c.self.invariant.follows)
    c.add_first_row.ensures.err)

pub invariant_of-self-in-None : goal.invariant_of-self-in-None
invariant_of-self-in-None c =
    record {
      numbered = c.add_first_row.ensures.numbered;
      used = c.add_first_row.ensures.used;
      follows = returns-in-None-clause-rows c;
    }
