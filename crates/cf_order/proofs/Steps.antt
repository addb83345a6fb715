-- Each step keeps the rule.
use Rattle.std.proofs.Common.{◌≡◌, ◌≢◌, ℕ, zero, suc, ◌+◌, ◌%◌, ◌^◌, ◌<◌, ◌≤◌, Bool, true, false, true≢false, List, []}
use Rattle.std.proofs.Common.{◌∷◌, ◌++◌, length, set, refl, ap, sym, ◌∙◌, subst, ⊎_elim, arith, length-append}
use Rattle.std.specs.Prelude.{slice_index}
use mathlib.Core.Option.{none, some, some-injective, some-ne-none}
use mathlib.Core.List.{IsPrefix}
use lib.ListN.{get_elem?}
use Rattle.atomic_table.specs.Table.{State, Me, keeps, step, Allows, Splits, Joins}
use Rattle.atomic_table.proofs.Lists.{at_set, at_snoc, set_here, set_else, set_again, at_longer}
use Rattle.cf_protocol.specs.LogEntry.{Entry}
use Rattle.cf_order.specs.Passes.{longer, published}
use Rattle.cf_order.specs.View.{View, opening_view, spent_view}
use Rattle.cf_order.specs.ShardRule.{Fits, HasOwner, IsOneLog}
use Rattle.cf_order.specs.ShardStep.{looked, added, word_given, with_share, joined, compared, HasLooked, HasAdded}
use Rattle.cf_order.specs.ShardStep.{HasTold, Looked, Knows}
use Rattle.cf_order.proofs.Prefixes.{prefix_self, prefix_none, prefix_front, prefix_trans, prefix_shorter, prefix_whole}
use Rattle.cf_order.proofs.Prefixes.{prefix_length, longer_fits, longer_below}
use Rattle.cf_order.proofs.Sums.{published-append, published_le, shares-set, shares-append, share_le}

abbrev holds : State ℕ View → Type 0
holds s = IsOneLog s.words s.views

off : {A : Type 0} (b : Bool) → b ≡ false → b ≡ true → A
off b f t = absurd (true≢false (sym t ∙ f))

at_length : {A : Type 0} (l : List A) (i : ℕ) (a : A) → get_elem? l i ≡ some a → i < length l
at_length [] i a e = absurd (some-ne-none a (sym e))
at_length (x ∷ xs) zero a e = omega arith
at_length (x ∷ xs) (suc i) a e = let r = at_length xs i a e in omega arith

-- the owner's view, where it stands
is_top : (views : List View) (seat : ℕ) (log : List Entry) (o : HasOwner views seat log) (id : ℕ) (v : View)
    → get_elem? views id ≡ some v → id ≡ seat → v ≡ o.top
is_top views seat log o id v at same =
    some-injective v o.top (sym at ∙ subst (λ (i : ℕ). get_elem? views i ≡ some o.top) (sym same) o.there)

owner_if : (b : Bool) (views : List View) (seat : ℕ) (log : List Entry) (o : HasOwner views seat log) (id : ℕ)
    (v w : View) → get_elem? views id ≡ some v → Fits seat log id v → v.owns ≡ b → w.owns ≡ b
    → (b ≡ true → w.log ≡ v.log) → HasOwner (set views id w) seat log
owner_if true views seat log o id v w at f is is' same =
    let mine = f.owns is in
    record {
      top = w;
      there = subst (λ (i : ℕ). get_elem? (set views id w) i ≡ some w) mine.0
          (set_here views id w (at_length views id v at));
      owns = is';
      whole = same refl ∙ mine.1;
    }
owner_if false views seat log o id v w at f is is' same =
    record {
      top = o.top;
      there = set_else views id seat w
          (λ e. off v.owns is (ap (λ (u : View). u.owns) (is_top views seat log o id v at (sym e)) ∙ o.owns)) ∙ o.there;
      owns = o.owns;
      whole = o.whole;
    }

-- the owner stays the owner where a seat has a new view
owner_set : (views : List View) (seat : ℕ) (log : List Entry) → HasOwner views seat log → (id : ℕ) (v w : View)
    → get_elem? views id ≡ some v → Fits seat log id v → w.owns ≡ v.owns → (v.owns ≡ true → w.log ≡ v.log)
    → HasOwner (set views id w) seat log
owner_set views seat log o id v w at f same logs = owner_if v.owns views seat log o id v w at f refl same logs

fits_set : (seat : ℕ) (log : List Entry) (views : List View) (id : ℕ) (w : View)
    → ((j : ℕ) (u : View) → j ≢ id → get_elem? views j ≡ some u → Fits seat log j u) → Fits seat log id w
    → (j : ℕ) (u : View) → get_elem? (set views id w) j ≡ some u → Fits seat log j u
fits_set seat log views id w others mine j u e =
    ⊎_elim
    (λ (x : (j ≡ id) × (w ≡ u)). subst (λ (y : ℕ × View). Fits seat log y.0 y.1) (λ i. (sym x.0 i, x.1 i)) mine)
    (λ (x : (j ≢ id) × (get_elem? views j ≡ some u)). others j u x.0 x.1)
    (at_set views id j w u e)

-- a seat has a new view with the same share
changes : (words : List ℕ) (views : List View) (k : IsOneLog words views) (id : ℕ) (v w : View)
    → get_elem? views id ≡ some v → w.owns ≡ v.owns → (v.owns ≡ true → w.log ≡ v.log) → w.share ≡ v.share
    → Fits k.seat k.log id w → IsOneLog words (set views id w)
changes words views k id v w at owns logs same fits = record {
  seat = k.seat;
  log = k.log;
  owner = owner_set views k.seat k.log k.owner id v w at (k.fits id v at) owns logs;
  word = k.word;
  shared = (let s = shares-set views id v w at in let t = k.shared in omega arith);
  fits = fits_set k.seat k.log views id w (λ j u _ e. k.fits j u e) fits;
}

pub opens : IsOneLog (0 ∷ []) (opening_view ∷ [])
opens = record {
  seat = 0;
  log = [];
  owner = record { top = opening_view; there = refl; owns = refl; whole = refl };
  word = refl;
  shared = refl;
  fits = one;
}
  where
    one : (id : ℕ) (v : View) → get_elem? (opening_view ∷ []) id ≡ some v → Fits 0 [] id v
    one zero v e =
        subst (Fits 0 [] 0) (some-injective opening_view v e)
        (record { owns = λ _. (refl, refl); seen = prefix_none []; found = prefix_none []; met = prefix_none [] })
    one (suc id) v e = absurd (some-ne-none v (sym e))

-- what a view has seen is a beginning of the log
begins : (seat : ℕ) (log : List Entry) (id : ℕ) (v : View) → Fits seat log id v → IsPrefix v.log log
begins seat log id v f = prefix_trans v.log v.found log f.seen f.found

-- the word's count
counted : (words : List ℕ) (views : List View) (k : IsOneLog words views) → slice_index words 0 ≡ length k.log
counted words views k = ap (λ (ws : List ℕ). slice_index ws 0) k.word

-- no share is above the publishes of the log
share_fits : (words : List ℕ) (views : List View) (k : IsOneLog words views) (id : ℕ) (v : View)
    → get_elem? views id ≡ some v → v.share ≤ published k.log
share_fits words views k id v at = let share = share_le views id v at in let all = k.shared in omega arith

-- what a step tells of the view that it finds
knows : (words : List ℕ) (views : List View) (k : IsOneLog words views) (id : ℕ) (v : View)
    → get_elem? views id ≡ some v → Knows v (slice_index words 0)
knows words views k id v at =
    let f = k.fits id v at in
    let share = share_fits words views k id v at in
    record {
      met = f.met;
      seen = f.seen;
      share = (let most = published_le k.log in let is = counted words views k in omega arith);
      own = λ o. subst (λ (l : List Entry). v.share ≤ published l) (sym (f.owns o).1) share;
    }

pub looks : (slots id : ℕ) (me : Me ℕ View) → me.0.owns ≡ false
    → Allows holds slots id me 0 (λ n. n) (HasLooked (step slots 0 0 0 none) me)
looks slots id me isnt s k len at small =
    let v = me.0 in
    let n = slice_index s.words 0 in
    let f = k.fits id v at in
    let w = looked v k.log in
    let same : set s.words 0 n ≡ s.words = rw k.word refl in
    let fits : Fits k.seat k.log id w =
    record {
      owns = λ o. off v.owns isnt o;
      seen = begins k.seat k.log id v f;
      found = prefix_self k.log;
      met = prefix_trans v.met v.found k.log f.met f.found;
    } in
    let told : Looked v w n =
    record {
      same = refl;
      count = counted s.words s.views k;
      seen = begins k.seat k.log id v f;
      rises = f.found;
      share = share_fits s.words s.views k id v at;
      below = (knows s.words s.views k id v at).share;
    } in (
      w,
      keeps,
      tt,
      subst (λ (ws : List ℕ). IsOneLog ws (set s.views id w)) (sym same)
          (changes s.words s.views k id v w at refl (λ _. refl) refl fits),
      (told, refl),
    )

-- a load that changes no view
pub tells : (slots id : ℕ) (me : Me ℕ View) → Allows holds slots id me 0 (λ n. n) (HasTold (step slots 0 0 0 none) me)
tells slots id me s k len at small =
    let v = me.0 in
    let n = slice_index s.words 0 in
    let same : set s.words 0 n ≡ s.words = rw k.word refl in
    let again : set s.views id v ≡ s.views = set_again s.views id v at in (
      v,
      keeps,
      tt,
      subst (λ (ws : List ℕ). IsOneLog ws (set s.views id v)) (sym same)
          (subst (λ (vs : List View). IsOneLog s.words vs) (sym again) k),
      (refl, knows s.words s.views k id v at),
    )

-- the owner adds an entry
pub adds : (slots id : ℕ) (me : Me ℕ View) (e : Entry) → me.0.owns ≡ true → length me.0.log < 2 ^ 62
    → Allows holds slots id me 0 (λ n. (n + 1) % 2 ^ 64) (HasAdded e (step slots 0 1 0 none) me)
adds slots id me e owns room s k len at small =
    let v = me.0 in
    let n = slice_index s.words 0 in
    let f = k.fits id v at in
    let mine = f.owns owns in
    let size : length v.log ≡ length k.log = ap length mine.1 in
    let is : n ≡ length v.log = counted s.words s.views k ∙ sym size in
    let w = added v e in
    let longer : length w.log ≡ length v.log + 1 = length-append v.log (e ∷ []) in
    let next : (n + 1) % 2 ^ 64 ≡ length w.log = omega arith in
    let word : set s.words 0 ((n + 1) % 2 ^ 64) ≡ length w.log ∷ [] = rw (next, k.word) refl in
    let whole : v.found ≡ v.log =
    sym (prefix_whole v.log v.found f.seen (let le = prefix_length v.found k.log f.found in omega arith)) in
    let found : w.found ≡ w.log = ap (λ l. l ++ e ∷ []) whole in
    let sum = shares-set s.views id v w at in
    let all = k.shared in
    let pubs = published-append v.log (e ∷ []) in
    let pubs' : published v.log ≡ published k.log = ap published mine.1 in
    let kept : IsOneLog (set s.words 0 ((n + 1) % 2 ^ 64)) (set s.views id w) = record {
      seat = id;
      log = w.log;
      owner = record { top = w; there = set_here s.views id w (at_length s.views id v at); owns = owns; whole = refl };
      word = word;
      shared = omega arith;
      fits = fits_set id w.log s.views id w
          (λ j u other e'. let g = k.fits j u e' in record {
            owns = λ o. absurd (other ((g.owns o).0 ∙ sym mine.0));
            seen = g.seen;
            found = prefix_trans u.found v.log w.log (subst (λ (l : List Entry). IsPrefix u.found l) (sym mine.1)
                g.found) (prefix_front v.log (e ∷ []));
            met = g.met;
          })
          (record {
            owns = λ _. (refl, refl);
            seen = subst (λ (l : List Entry). IsPrefix w.log l) (sym found) (prefix_self w.log);
            found = subst (λ (l : List Entry). IsPrefix l w.log) (sym found) (prefix_self w.log);
            met = prefix_trans v.met v.found w.found f.met (prefix_front v.found (e ∷ []));
          });
    } in
    (w, keeps, tt, kept, (refl, knows s.words s.views k id v at, is))

-- a seat gives a new one what it knows and a part of its share
pub splits : (id : ℕ) (v : View) (a b : ℕ) → a + b ≡ v.share → Splits holds id v (with_share v a) (word_given v b)
splits id v a b sum s k at =
    let l = with_share v a in
    let r = word_given v b in
    let f = k.fits id v at in
    let own = owner_set s.views k.seat k.log k.owner id v l at f refl (λ _. refl) in
    let fits = fits_set k.seat k.log s.views id l (λ j u _ e. k.fits j u e)
    (record { owns = f.owns; seen = f.seen; found = f.found; met = f.met }) in
    let one = shares-set s.views id v l at in
    let two = shares-append (set s.views id l) r in
    let all = k.shared in
    record {
      seat = k.seat;
      log = k.log;
      owner = record {
        top = own.top;
        there = at_longer (set s.views id l) (r ∷ []) k.seat own.top own.there;
        owns = own.owns;
        whole = own.whole;
      };
      word = k.word;
      shared = omega arith;
      fits = λ j u e. ⊎_elim
          (λ was. fits j u was)
          (λ (same : r ≡ u). subst (Fits k.seat k.log j) same
          (record {
            owns = λ o. absurd (true≢false (sym o));
            seen = f.seen;
            found = f.found;
            met = prefix_none v.found;
          }))
          (at_snoc (set s.views id l) r u j e);
    }

-- a seat with a new view has another seat's share, which is spent
takes : (words : List ℕ) (views : List View) (k : IsOneLog words views) (id : ℕ) (v : View) (other : ℕ) (w both : View)
    → get_elem? views id ≡ some v → other ≢ id → get_elem? views other ≡ some w → w.owns ≡ false
    → both.owns ≡ v.owns → (v.owns ≡ true → both.log ≡ v.log) → both.share ≡ v.share + w.share
    → Fits k.seat k.log id both
    → IsOneLog words (set (set views id both) other spent_view)
takes words views k id v other w both at apart there isnt owns logs sum fits =
    let own = owner_set views k.seat k.log k.owner id v both at (k.fits id v at) owns logs in
    let there' : get_elem? (set views id both) other ≡ some w = set_else views id other both apart ∙ there in
    let fits' = fits_set k.seat k.log views id both (λ j u _ e. k.fits j u e) fits in
    let one = shares-set views id v both at in
    let two = shares-set (set views id both) other w spent_view there' in
    let all = k.shared in
    record {
      seat = k.seat;
      log = k.log;
      owner = owner_set (set views id both) k.seat k.log own other w spent_view there' (k.fits other w there) (sym isnt)
          (λ o. off w.owns isnt o);
      word = k.word;
      shared = omega arith;
      fits = fits_set k.seat k.log (set views id both) other spent_view (λ j u _ e. fits' j u e)
          (record {
            owns = λ o. absurd (true≢false (sym o));
            seen = prefix_none [];
            found = prefix_none k.log;
            met = prefix_none [];
          });
    }

was_there : (views : List View) (id other : ℕ) (both w : View) → ¬ (other ≡ id)
    → get_elem? (set views id both) other ≡ some w → get_elem? views other ≡ some w
was_there views id other both w apart e = sym (set_else views id other both apart) ∙ e

-- the owner takes in a pass
pub compares : (id : ℕ) (v : View) (other : ℕ) (w : View) → v.owns ≡ true → w.owns ≡ false
    → Joins holds id v other w (compared v w) spent_view
compares id v other w owns isnt s k at apart there =
    let there' = was_there s.views id other (compared v w) w apart there in
    let f = k.fits id v at in
    let g = k.fits other w there' in
    let met : IsPrefix w.found v.log = subst (λ (l : List Entry). IsPrefix w.found l) (sym (f.owns owns).1) g.found in
    takes s.words s.views k id v other w (compared v w) at apart there' isnt refl (λ _. refl) refl
    (record { owns = f.owns; seen = f.seen; found = f.found; met = prefix_trans w.found v.log v.found met f.seen })

-- a pass takes in another
pub joins : (id : ℕ) (v : View) (other : ℕ) (w : View) → v.owns ≡ false → w.owns ≡ false
    → Joins holds id v other w (joined v w) spent_view
joins id v other w mine isnt s k at apart there =
    let there' = was_there s.views id other (joined v w) w apart there in
    let f = k.fits id v at in
    let g = k.fits other w there' in
    let logs = longer_fits k.log v.log w.log (begins k.seat k.log id v f) (begins k.seat k.log other w g) in
    let founds = longer_fits k.log v.found w.found f.found g.found in
    let one = prefix_length v.log v.found f.seen in
    let two = prefix_length w.log w.found g.seen in
    let below : length (longer v.log w.log) ≤ length (longer v.found w.found) =
    longer_below v.log w.log (length (longer v.found w.found)) (let a = founds.1 in omega arith)
    (let a = founds.2 in omega arith) in
    let seen = prefix_shorter (longer v.log w.log) (longer v.found w.found) k.log logs.0 founds.0 below in
    takes s.words s.views k id v other w (joined v w) at apart there' isnt refl (λ o. off v.owns mine o) refl
    (record { owns = λ o. off v.owns mine o; seen = seen; found = founds.0; met = founds.3 })
