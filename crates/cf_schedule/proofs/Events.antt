-- A line says one event alone, and none where it is passed over.
use Rattle.std.proofs.Common.{◌≡◌, ◌≢◌, inl, inr, ℕ, ◌≤◌, ℤ, pos, neg_ℤ, List, [], ◌∷◌, ◌++◌, codes, refl, sym, ap, ◌∙◌}
use Rattle.std.proofs.Common.{subst, arith}
use Rattle.std.specs.Fmt.{decimal}
use Rattle.std.proofs.lemmas.Fmt.{decimal_injective}
use Rattle.cf_schedule.specs.Word.{IsClientName, IsChannelName, IsKey}
use Rattle.cf_machine.specs.Event.{Event, Epoch, Connect, Ask, AskFrom, Read, Finish, Publish, PublishBy, Deliver, Take}
use Rattle.cf_machine.specs.Event.{Break, Leave, Trim, Forget, BrokerRestart, SetSize, Restart, Check, ListHistory}
use Rattle.cf_machine.specs.TraceLine.{spaced}
use Rattle.cf_schedule.specs.ScheduleLine.{Says, IsPassedOver, IsLimit, IsData, last_number}
use Rattle.cf_schedule.proofs.Spacing.{cut_once, one_cut, never_cut, unspaced_word, unspaced_client, unspaced_channel}
use Rattle.cf_schedule.proofs.Spacing.{unspaced_key, unspaced_number, namespace_lacks}
use Rattle.cf_schedule.proofs.Numbers.{number_unsigned}
use Rattle.cf_schedule.proofs.Lines.{Rest, splits, is_epoch, is_connect, is_ask, is_askfrom, is_read, is_finish}
use Rattle.cf_schedule.proofs.Lines.{is_publish, is_publishkey, is_put, is_putkey, is_deliver, is_take, is_break}
use Rattle.cf_schedule.proofs.Lines.{is_leave, is_trim, is_forget, is_size, is_restart, is_check, is_list}

abbrev pub OneData : Type 0
OneData = (s a b : List ℕ) → IsData s a → IsData s b → a ≡ b

two : {A B C : Type 0} (f : A → B → C) {a b : A} {c d : B} → a ≡ b → c ≡ d → f a c ≡ f b d
two f {a} {b} {c} {d} p q = ap (λ x. f x c) p ∙ ap (f b) q

three : {A B C D : Type 0} (f : A → B → C → D) {a b : A} {c d : B} {x y : C} → a ≡ b → c ≡ d → x ≡ y → f a c x ≡ f b d y
three f {a} {b} {c} {d} {x} {y} p q r = ap (λ v. f v c x) p ∙ two (f b) q r

four : {A B C D E : Type 0} (f : A → B → C → D → E) {a b : A} {c d : B} {x y : C} {u v : D} → a ≡ b → c ≡ d → x ≡ y
    → u ≡ v → f a c x u ≡ f b d y v
four f {a} {b} {c} {d} {x} {y} {u} {v} p q r s = ap (λ w. f w c x u) p ∙ three (f b) q r s

-- ---- words

names_same : (x y c d r : List ℕ) → IsClientName x → IsClientName y → r ≡ spaced (x ∷ c ∷ []) → r ≡ spaced (y ∷ d ∷ [])
    → (x ≡ y) × (c ≡ d)
names_same x y c d r u v e f = one_cut x y c d (unspaced_client x u) (unspaced_client y v) (sym e ∙ f)

channels_same : (c d s t r : List ℕ) → IsChannelName c → IsChannelName d → r ≡ spaced (c ∷ s ∷ [])
    → r ≡ spaced (d ∷ t ∷ []) → (c ≡ d) × (s ≡ t)
channels_same c d s t r u v e f = one_cut c d s t (unspaced_channel c u) (unspaced_channel d v) (sym e ∙ f)

keys_same : (k l s t r : List ℕ) → IsKey k → IsKey l → r ≡ spaced (k ∷ s ∷ []) → r ≡ spaced (l ∷ t ∷ []) → (k ≡ l)
    × (s ≡ t)
keys_same k l s t r u v e f = one_cut k l s t (unspaced_key k u) (unspaced_key l v) (sym e ∙ f)

numbers_same : (m n : ℕ) → m ≤ last_number → n ≤ last_number → decimal m ≡ decimal n → m ≡ n
numbers_same m n a b e = decimal_injective m n (omega arith) (omega arith) e

limits_same : (s : List ℕ) (l m : ℤ) → IsLimit s l → IsLimit s m → l ≡ m
limits_same s l m (a, inl p) (b, inl q) =
    p.1 ∙ ap (λ n. pos n) (numbers_same a b (let h = p.2 in omega arith) (let h = q.2 in omega arith) (sym p.0 ∙ q.0))
    ∙ sym q.1
limits_same s l m (a, inl p) (b, inr q) =
    absurd (number_unsigned a (let h = p.2 in omega arith) (decimal b) (sym p.0 ∙ q.0))
limits_same s l m (a, inr p) (b, inl q) =
    absurd (number_unsigned b (let h = q.2 in omega arith) (decimal a) (sym q.0 ∙ p.0))
limits_same s l m (a, inr p) (b, inr q) =
    let rest : decimal a ≡ decimal b = let e = sym p.0 ∙ q.0 in cc in
    p.1 ∙ ap (λ n. neg_ℤ (pos n)) (numbers_same a b (let h = p.2 in omega arith) (let h = q.2 in omega arith) rest)
    ∙ sym q.1

-- ---- events

same_epoch : (nodes : ℕ) (r : List ℕ) (e f : List ℕ) → Rest nodes r (Epoch e) → Rest nodes r (Epoch f)
    → Epoch e ≡ Epoch f
same_epoch nodes r e f h g = ap Epoch (sym h.1 ∙ g.1)

same_connect : (nodes : ℕ) (r : List ℕ) (x y : List ℕ) (n m : ℕ) → nodes ≤ last_number → Rest nodes r (Connect x n)
    → Rest nodes r (Connect y m) → Connect x n ≡ Connect y m
same_connect nodes r x y n m small h g = let p = names_same x y (decimal n) (decimal m) r h.0 g.0 h.2 g.2 in
    two Connect p.0 (numbers_same n m (let l = h.1 in omega arith) (let l = g.1 in omega arith) p.1)

same_ask : (nodes : ℕ) (r : List ℕ) (x y : List ℕ) (c d : List ℕ) → Rest nodes r (Ask x c) → Rest nodes r (Ask y d)
    → Ask x c ≡ Ask y d
same_ask nodes r x y c d h g = let p = names_same x y c d r h.0 g.0 h.2 g.2 in two Ask p.0 p.1

same_askfrom : (nodes : ℕ) (r : List ℕ) (x y : List ℕ) (c d : List ℕ) → Rest nodes r (AskFrom x c)
    → Rest nodes r (AskFrom y d) → AskFrom x c ≡ AskFrom y d
same_askfrom nodes r x y c d h g = let p = names_same x y c d r h.0 g.0 h.2 g.2 in two AskFrom p.0 p.1

same_read : (nodes : ℕ) (r : List ℕ) (x y : List ℕ) (c d : List ℕ) → Rest nodes r (Read x c) → Rest nodes r (Read y d)
    → Read x c ≡ Read y d
same_read nodes r x y c d h g = let p = names_same x y c d r h.0 g.0 h.2 g.2 in two Read p.0 p.1

same_finish : (nodes : ℕ) (r : List ℕ) (x y : List ℕ) (c d : List ℕ) → Rest nodes r (Finish x c)
    → Rest nodes r (Finish y d) → Finish x c ≡ Finish y d
same_finish nodes r x y c d h g = let p = names_same x y c d r h.0 g.0 h.2 g.2 in two Finish p.0 p.1

same_publish : OneData → (nodes : ℕ) (r : List ℕ) (c d : List ℕ) (body b : List ℕ) → Rest nodes r (Publish c [] body)
    → Rest nodes r (Publish d [] b) → Publish c [] body ≡ Publish d [] b
same_publish one nodes r c d body b h g = let p = channels_same c d h.1 g.1 r h.0 g.0 h.3 g.3 in
    two (λ c body. Publish c [] body) p.0 (one h.1 body b h.2 (subst (λ s. IsData s b) (sym p.1) g.2))

same_publishkey : OneData → (nodes : ℕ) (r : List ℕ) (c d : List ℕ) (k : ℕ) (ks : List ℕ) (l : ℕ) (ls : List ℕ)
    (body b : List ℕ) → Rest nodes r (Publish c (k ∷ ks) body) → Rest nodes r (Publish d (l ∷ ls) b)
    → Publish c (k ∷ ks) body ≡ Publish d (l ∷ ls) b
same_publishkey one nodes r c d k ks l ls body b h g =
    let p = channels_same c d (spaced ((k ∷ ks) ∷ h.2 ∷ [])) (spaced ((l ∷ ls) ∷ g.2 ∷ [])) r h.0 g.0 h.4 g.4 in
    let q = keys_same (k ∷ ks) (l ∷ ls) h.2 g.2 (spaced ((k ∷ ks) ∷ h.2 ∷ [])) h.1 g.1 refl p.1 in
    three Publish p.0 q.0 (one h.2 body b h.3 (subst (λ s. IsData s b) (sym q.1) g.3))

same_put : OneData → (nodes : ℕ) (r : List ℕ) (x y : List ℕ) (c d : List ℕ) (body b : List ℕ)
    → Rest nodes r (PublishBy x c [] body) → Rest nodes r (PublishBy y d [] b)
    → PublishBy x c [] body ≡ PublishBy y d [] b
same_put one nodes r x y c d body b h g = let p =
    names_same x y (spaced (c ∷ h.2 ∷ [])) (spaced (d ∷ g.2 ∷ [])) r h.0 g.0 h.4 g.4 in let q =
    channels_same c d h.2 g.2 (spaced (c ∷ h.2 ∷ [])) h.1 g.1 refl p.1 in
    three (λ x c body. PublishBy x c [] body) p.0 q.0 (one h.2 body b h.3 (subst (λ s. IsData s b) (sym q.1) g.3))

same_putkey : OneData → (nodes : ℕ) (r : List ℕ) (x y : List ℕ) (c d : List ℕ) (k : ℕ) (ks : List ℕ) (l : ℕ)
    (ls : List ℕ) (body b : List ℕ) → Rest nodes r (PublishBy x c (k ∷ ks) body)
    → Rest nodes r (PublishBy y d (l ∷ ls) b) → PublishBy x c (k ∷ ks) body ≡ PublishBy y d (l ∷ ls) b
same_putkey one nodes r x y c d k ks l ls body b h g =
    let p = names_same x y (spaced (c ∷ (k ∷ ks) ∷ h.3 ∷ [])) (spaced (d ∷ (l ∷ ls) ∷ g.3 ∷ [])) r h.0 g.0 h.5 g.5 in
    let q = channels_same c d (spaced ((k ∷ ks) ∷ h.3 ∷ [])) (spaced ((l ∷ ls) ∷ g.3 ∷ []))
    (spaced (c ∷ (k ∷ ks) ∷ h.3 ∷ [])) h.1 g.1 refl p.1 in
    let w = keys_same (k ∷ ks) (l ∷ ls) h.3 g.3 (spaced ((k ∷ ks) ∷ h.3 ∷ [])) h.2 g.2 refl q.1 in
    four PublishBy p.0 q.0 w.0 (one h.3 body b h.4 (subst (λ s. IsData s b) (sym w.1) g.4))

same_deliver : (nodes : ℕ) (r : List ℕ) (n m : ℕ) (i j : ℕ) → nodes ≤ last_number → Rest nodes r (Deliver n i)
    → Rest nodes r (Deliver m j) → Deliver n i ≡ Deliver m j
same_deliver nodes r n m i j small h g = let p =
    one_cut (decimal n) (decimal m) (decimal i) (decimal j) (unspaced_number n (let l = h.0 in omega arith))
    (unspaced_number m (let l = g.0 in omega arith)) (sym h.2 ∙ g.2) in
    two Deliver (numbers_same n m (let l = h.0 in omega arith) (let l = g.0 in omega arith) p.0)
    (numbers_same i j h.1 g.1 p.1)

same_take : (nodes : ℕ) (r : List ℕ) (x y : List ℕ) → Rest nodes r (Take x) → Rest nodes r (Take y) → Take x ≡ Take y
same_take nodes r x y h g = ap Take (sym h.1 ∙ g.1)

same_break : (nodes : ℕ) (r : List ℕ) (x y : List ℕ) → Rest nodes r (Break x) → Rest nodes r (Break y)
    → Break x ≡ Break y
same_break nodes r x y h g = ap Break (sym h.1 ∙ g.1)

same_leave : (nodes : ℕ) (r : List ℕ) (x y : List ℕ) (c d : List ℕ) → Rest nodes r (Leave x c)
    → Rest nodes r (Leave y d) → Leave x c ≡ Leave y d
same_leave nodes r x y c d h g = let p = names_same x y c d r h.0 g.0 h.2 g.2 in two Leave p.0 p.1

same_trim : (nodes : ℕ) (r : List ℕ) (c d : List ℕ) (k l : ℕ) → Rest nodes r (Trim c k) → Rest nodes r (Trim d l)
    → Trim c k ≡ Trim d l
same_trim nodes r c d k l h g = let p = channels_same c d (decimal k) (decimal l) r h.0 g.0 h.2 g.2 in
    two Trim p.0 (numbers_same k l (let v = h.1 in omega arith) (let v = g.1 in omega arith) p.1)

same_forget : (nodes : ℕ) (r : List ℕ) (c d : List ℕ) → Rest nodes r (Forget c) → Rest nodes r (Forget d)
    → Forget c ≡ Forget d
same_forget nodes r c d h g = ap Forget (sym h.1 ∙ g.1)

same_size : (nodes : ℕ) (r : List ℕ) (name other : List ℕ) (n m : ℕ) → Rest nodes r (SetSize name n)
    → Rest nodes r (SetSize other m) → SetSize name n ≡ SetSize other m
same_size nodes r name other n m h g =
    let p = cut_once 61 name other (decimal n) (decimal m) (namespace_lacks name h.0) (namespace_lacks other g.0)
    (sym h.3 ∙ g.3) in
    two SetSize p.0 (numbers_same n m (let l = h.2 in omega arith) (let l = g.2 in omega arith) p.1)

same_restart : (nodes : ℕ) (r : List ℕ) (n m : ℕ) → nodes ≤ last_number → Rest nodes r (Restart n)
    → Rest nodes r (Restart m) → Restart n ≡ Restart m
same_restart nodes r n m small h g =
    ap Restart (numbers_same n m (let l = h.0 in omega arith) (let l = g.0 in omega arith) (sym h.1 ∙ g.1))

same_check : (nodes : ℕ) (r : List ℕ) (x y : List ℕ) (c d : List ℕ) → Rest nodes r (Check x c)
    → Rest nodes r (Check y d) → Check x c ≡ Check y d
same_check nodes r x y c d h g = let p = names_same x y c d r h.0 g.0 h.2 g.2 in two Check p.0 p.1

same_list : (nodes : ℕ) (r : List ℕ) (x y : List ℕ) (c d : List ℕ) (limit m : ℤ) → Rest nodes r (ListHistory x c limit)
    → Rest nodes r (ListHistory y d m) → ListHistory x c limit ≡ ListHistory y d m
same_list nodes r x y c d limit m h g = let p =
    names_same x y (spaced (c ∷ h.2 ∷ [])) (spaced (d ∷ g.2 ∷ [])) r h.0 g.0 h.4 g.4 in let q =
    channels_same c d h.2 g.2 (spaced (c ∷ h.2 ∷ [])) h.1 g.1 refl p.1 in
    three ListHistory p.0 q.0 (limits_same h.2 limit m h.3 (subst (λ s. IsLimit s m) (sym q.1) g.3))

alone : (nodes : ℕ) (e : Event) → Says nodes (codes "brokerrestart") e → BrokerRestart ≡ e
alone nodes (Epoch e) h =
    absurd (never_cut (codes "brokerrestart") (codes "epoch") e (unspaced_word (codes "brokerrestart") refl) h.1)
alone nodes (Connect x n) h =
    absurd (never_cut (codes "brokerrestart") (codes "connect") (spaced (x ∷ decimal n ∷ []))
    (unspaced_word (codes "brokerrestart") refl) h.2)
alone nodes (Ask x c) h =
    absurd (never_cut (codes "brokerrestart") (codes "ask") (spaced (x ∷ c ∷ []))
    (unspaced_word (codes "brokerrestart") refl) h.2)
alone nodes (AskFrom x c) h =
    absurd (never_cut (codes "brokerrestart") (codes "askfrom") (spaced (x ∷ c ∷ []))
    (unspaced_word (codes "brokerrestart") refl) h.2)
alone nodes (Read x c) h =
    absurd (never_cut (codes "brokerrestart") (codes "read") (spaced (x ∷ c ∷ []))
    (unspaced_word (codes "brokerrestart") refl) h.2)
alone nodes (Finish x c) h =
    absurd (never_cut (codes "brokerrestart") (codes "finish") (spaced (x ∷ c ∷ []))
    (unspaced_word (codes "brokerrestart") refl) h.2)
alone nodes (Publish c [] body) h =
    absurd (never_cut (codes "brokerrestart") (codes "publish") (spaced (c ∷ h.1 ∷ []))
    (unspaced_word (codes "brokerrestart") refl) h.3)
alone nodes (Publish c (k ∷ ks) body) h =
    absurd (never_cut (codes "brokerrestart") (codes "publishkey") (spaced (c ∷ (k ∷ ks) ∷ h.2 ∷ []))
    (unspaced_word (codes "brokerrestart") refl) h.4)
alone nodes (PublishBy x c [] body) h =
    absurd (never_cut (codes "brokerrestart") (codes "put") (spaced (x ∷ c ∷ h.2 ∷ []))
    (unspaced_word (codes "brokerrestart") refl) h.4)
alone nodes (PublishBy x c (k ∷ ks) body) h =
    absurd (never_cut (codes "brokerrestart") (codes "putkey") (spaced (x ∷ c ∷ (k ∷ ks) ∷ h.3 ∷ []))
    (unspaced_word (codes "brokerrestart") refl) h.5)
alone nodes (Deliver n i) h =
    absurd (never_cut (codes "brokerrestart") (codes "deliver") (spaced (decimal n ∷ decimal i ∷ []))
    (unspaced_word (codes "brokerrestart") refl) h.2)
alone nodes (Take x) h =
    absurd (never_cut (codes "brokerrestart") (codes "take") x (unspaced_word (codes "brokerrestart") refl) h.1)
alone nodes (Break x) h =
    absurd (never_cut (codes "brokerrestart") (codes "break") x (unspaced_word (codes "brokerrestart") refl) h.1)
alone nodes (Leave x c) h =
    absurd (never_cut (codes "brokerrestart") (codes "leave") (spaced (x ∷ c ∷ []))
    (unspaced_word (codes "brokerrestart") refl) h.2)
alone nodes (Trim c k) h =
    absurd (never_cut (codes "brokerrestart") (codes "trim") (spaced (c ∷ decimal k ∷ []))
    (unspaced_word (codes "brokerrestart") refl) h.2)
alone nodes (Forget c) h =
    absurd (never_cut (codes "brokerrestart") (codes "forget") c (unspaced_word (codes "brokerrestart") refl) h.1)
alone nodes (SetSize name n) h =
    absurd (never_cut (codes "brokerrestart") (codes "size") (name ++ 61 ∷ decimal n)
    (unspaced_word (codes "brokerrestart") refl) h.3)
alone nodes (Restart n) h =
    absurd (never_cut (codes "brokerrestart") (codes "restart") (decimal n) (unspaced_word (codes "brokerrestart") refl)
    h.1)
alone nodes (Check x c) h =
    absurd (never_cut (codes "brokerrestart") (codes "check") (spaced (x ∷ c ∷ []))
    (unspaced_word (codes "brokerrestart") refl) h.2)
alone nodes (ListHistory x c limit) h =
    absurd (never_cut (codes "brokerrestart") (codes "list") (spaced (x ∷ c ∷ h.2 ∷ []))
    (unspaced_word (codes "brokerrestart") refl) h.4)
alone nodes BrokerRestart h = refl

pub one_event : OneData → (nodes : ℕ) (line : List ℕ) (e f : Event) → nodes ≤ last_number → Says nodes line e
    → Says nodes line f → e ≡ f
one_event one nodes line (Epoch e) f small h g =
    let there : Says nodes (codes "epoch" ++ 32 ∷ e) f = subst (λ (l : List ℕ). Says nodes l f) h.1 g in
    let s = splits nodes (codes "epoch") e f (unspaced_word (codes "epoch") refl) there in
    let i = is_epoch nodes e f s.0 s.1 in
    same_epoch nodes e e i.0 (h.0, refl) i.2 ∙ sym i.1
one_event one nodes line (Connect x n) f small h g =
    let there : Says nodes (codes "connect" ++ 32 ∷ (spaced (x ∷ decimal n ∷ []))) f =
    subst (λ (l : List ℕ). Says nodes l f) h.2 g in
    let s = splits nodes (codes "connect") (spaced (x ∷ decimal n ∷ [])) f (unspaced_word (codes "connect") refl)
    there in
    let i = is_connect nodes (spaced (x ∷ decimal n ∷ [])) f s.0 s.1 in
    same_connect nodes (spaced (x ∷ decimal n ∷ [])) x i.0 n i.1 small (h.0, h.1, refl) i.3 ∙ sym i.2
one_event one nodes line (Ask x c) f small h g =
    let there : Says nodes (codes "ask" ++ 32 ∷ (spaced (x ∷ c ∷ []))) f =
    subst (λ (l : List ℕ). Says nodes l f) h.2 g in
    let s = splits nodes (codes "ask") (spaced (x ∷ c ∷ [])) f (unspaced_word (codes "ask") refl) there in
    let i = is_ask nodes (spaced (x ∷ c ∷ [])) f s.0 s.1 in
    same_ask nodes (spaced (x ∷ c ∷ [])) x i.0 c i.1 (h.0, h.1, refl) i.3 ∙ sym i.2
one_event one nodes line (AskFrom x c) f small h g =
    let there : Says nodes (codes "askfrom" ++ 32 ∷ (spaced (x ∷ c ∷ []))) f =
    subst (λ (l : List ℕ). Says nodes l f) h.2 g in
    let s = splits nodes (codes "askfrom") (spaced (x ∷ c ∷ [])) f (unspaced_word (codes "askfrom") refl) there in
    let i = is_askfrom nodes (spaced (x ∷ c ∷ [])) f s.0 s.1 in
    same_askfrom nodes (spaced (x ∷ c ∷ [])) x i.0 c i.1 (h.0, h.1, refl) i.3 ∙ sym i.2
one_event one nodes line (Read x c) f small h g =
    let there : Says nodes (codes "read" ++ 32 ∷ (spaced (x ∷ c ∷ []))) f =
    subst (λ (l : List ℕ). Says nodes l f) h.2 g in
    let s = splits nodes (codes "read") (spaced (x ∷ c ∷ [])) f (unspaced_word (codes "read") refl) there in
    let i = is_read nodes (spaced (x ∷ c ∷ [])) f s.0 s.1 in
    same_read nodes (spaced (x ∷ c ∷ [])) x i.0 c i.1 (h.0, h.1, refl) i.3 ∙ sym i.2
one_event one nodes line (Finish x c) f small h g =
    let there : Says nodes (codes "finish" ++ 32 ∷ (spaced (x ∷ c ∷ []))) f =
    subst (λ (l : List ℕ). Says nodes l f) h.2 g in
    let s = splits nodes (codes "finish") (spaced (x ∷ c ∷ [])) f (unspaced_word (codes "finish") refl) there in
    let i = is_finish nodes (spaced (x ∷ c ∷ [])) f s.0 s.1 in
    same_finish nodes (spaced (x ∷ c ∷ [])) x i.0 c i.1 (h.0, h.1, refl) i.3 ∙ sym i.2
one_event one nodes line (Publish c [] body) f small h g =
    let there : Says nodes (codes "publish" ++ 32 ∷ (spaced (c ∷ h.1 ∷ []))) f =
    subst (λ (l : List ℕ). Says nodes l f) h.3 g in
    let s = splits nodes (codes "publish") (spaced (c ∷ h.1 ∷ [])) f (unspaced_word (codes "publish") refl) there in
    let i = is_publish nodes (spaced (c ∷ h.1 ∷ [])) f s.0 s.1 in
    same_publish one nodes (spaced (c ∷ h.1 ∷ [])) c i.0 body i.1 (h.0, h.1, h.2, refl) i.3 ∙ sym i.2
one_event one nodes line (Publish c (k ∷ ks) body) f small h g =
    let there : Says nodes (codes "publishkey" ++ 32 ∷ (spaced (c ∷ (k ∷ ks) ∷ h.2 ∷ []))) f =
    subst (λ (l : List ℕ). Says nodes l f) h.4 g in
    let s = splits nodes (codes "publishkey") (spaced (c ∷ (k ∷ ks) ∷ h.2 ∷ [])) f
    (unspaced_word (codes "publishkey") refl) there in
    let i = is_publishkey nodes (spaced (c ∷ (k ∷ ks) ∷ h.2 ∷ [])) f s.0 s.1 in
    same_publishkey one nodes (spaced (c ∷ (k ∷ ks) ∷ h.2 ∷ [])) c i.0 k ks i.1 i.2 body i.3 (h.0, h.1, h.2, h.3, refl)
    i.5 ∙ sym i.4
one_event one nodes line (PublishBy x c [] body) f small h g =
    let there : Says nodes (codes "put" ++ 32 ∷ (spaced (x ∷ c ∷ h.2 ∷ []))) f =
    subst (λ (l : List ℕ). Says nodes l f) h.4 g in
    let s = splits nodes (codes "put") (spaced (x ∷ c ∷ h.2 ∷ [])) f (unspaced_word (codes "put") refl) there in
    let i = is_put nodes (spaced (x ∷ c ∷ h.2 ∷ [])) f s.0 s.1 in
    same_put one nodes (spaced (x ∷ c ∷ h.2 ∷ [])) x i.0 c i.1 body i.2 (h.0, h.1, h.2, h.3, refl) i.4 ∙ sym i.3
one_event one nodes line (PublishBy x c (k ∷ ks) body) f small h g =
    let there : Says nodes (codes "putkey" ++ 32 ∷ (spaced (x ∷ c ∷ (k ∷ ks) ∷ h.3 ∷ []))) f =
    subst (λ (l : List ℕ). Says nodes l f) h.5 g in
    let s = splits nodes (codes "putkey") (spaced (x ∷ c ∷ (k ∷ ks) ∷ h.3 ∷ [])) f (unspaced_word (codes "putkey") refl)
    there in
    let i = is_putkey nodes (spaced (x ∷ c ∷ (k ∷ ks) ∷ h.3 ∷ [])) f s.0 s.1 in
    same_putkey one nodes (spaced (x ∷ c ∷ (k ∷ ks) ∷ h.3 ∷ [])) x i.0 c i.1 k ks i.2 i.3 body i.4
    (h.0, h.1, h.2, h.3, h.4, refl) i.6 ∙ sym i.5
one_event one nodes line (Deliver n i) f small h g =
    let there : Says nodes (codes "deliver" ++ 32 ∷ (spaced (decimal n ∷ decimal i ∷ []))) f =
    subst (λ (l : List ℕ). Says nodes l f) h.2 g in
    let s = splits nodes (codes "deliver") (spaced (decimal n ∷ decimal i ∷ [])) f
    (unspaced_word (codes "deliver") refl) there in
    let z = is_deliver nodes (spaced (decimal n ∷ decimal i ∷ [])) f s.0 s.1 in
    same_deliver nodes (spaced (decimal n ∷ decimal i ∷ [])) n z.0 i z.1 small (h.0, h.1, refl) z.3 ∙ sym z.2
one_event one nodes line (Take x) f small h g =
    let there : Says nodes (codes "take" ++ 32 ∷ x) f = subst (λ (l : List ℕ). Says nodes l f) h.1 g in
    let s = splits nodes (codes "take") x f (unspaced_word (codes "take") refl) there in
    let i = is_take nodes x f s.0 s.1 in
    same_take nodes x x i.0 (h.0, refl) i.2 ∙ sym i.1
one_event one nodes line (Break x) f small h g =
    let there : Says nodes (codes "break" ++ 32 ∷ x) f = subst (λ (l : List ℕ). Says nodes l f) h.1 g in
    let s = splits nodes (codes "break") x f (unspaced_word (codes "break") refl) there in
    let i = is_break nodes x f s.0 s.1 in
    same_break nodes x x i.0 (h.0, refl) i.2 ∙ sym i.1
one_event one nodes line (Leave x c) f small h g =
    let there : Says nodes (codes "leave" ++ 32 ∷ (spaced (x ∷ c ∷ []))) f =
    subst (λ (l : List ℕ). Says nodes l f) h.2 g in
    let s = splits nodes (codes "leave") (spaced (x ∷ c ∷ [])) f (unspaced_word (codes "leave") refl) there in
    let i = is_leave nodes (spaced (x ∷ c ∷ [])) f s.0 s.1 in
    same_leave nodes (spaced (x ∷ c ∷ [])) x i.0 c i.1 (h.0, h.1, refl) i.3 ∙ sym i.2
one_event one nodes line (Trim c k) f small h g =
    let there : Says nodes (codes "trim" ++ 32 ∷ (spaced (c ∷ decimal k ∷ []))) f =
    subst (λ (l : List ℕ). Says nodes l f) h.2 g in
    let s = splits nodes (codes "trim") (spaced (c ∷ decimal k ∷ [])) f (unspaced_word (codes "trim") refl) there in
    let i = is_trim nodes (spaced (c ∷ decimal k ∷ [])) f s.0 s.1 in
    same_trim nodes (spaced (c ∷ decimal k ∷ [])) c i.0 k i.1 (h.0, h.1, refl) i.3 ∙ sym i.2
one_event one nodes line (Forget c) f small h g =
    let there : Says nodes (codes "forget" ++ 32 ∷ c) f = subst (λ (l : List ℕ). Says nodes l f) h.1 g in
    let s = splits nodes (codes "forget") c f (unspaced_word (codes "forget") refl) there in
    let i = is_forget nodes c f s.0 s.1 in
    same_forget nodes c c i.0 (h.0, refl) i.2 ∙ sym i.1
one_event one nodes line (SetSize name n) f small h g =
    let there : Says nodes (codes "size" ++ 32 ∷ (name ++ 61 ∷ decimal n)) f =
    subst (λ (l : List ℕ). Says nodes l f) h.3 g in
    let s = splits nodes (codes "size") (name ++ 61 ∷ decimal n) f (unspaced_word (codes "size") refl) there in
    let i = is_size nodes (name ++ 61 ∷ decimal n) f s.0 s.1 in
    same_size nodes (name ++ 61 ∷ decimal n) name i.0 n i.1 (h.0, h.1, h.2, refl) i.3 ∙ sym i.2
one_event one nodes line (Restart n) f small h g =
    let there : Says nodes (codes "restart" ++ 32 ∷ (decimal n)) f = subst (λ (l : List ℕ). Says nodes l f) h.1 g in
    let s = splits nodes (codes "restart") (decimal n) f (unspaced_word (codes "restart") refl) there in
    let i = is_restart nodes (decimal n) f s.0 s.1 in
    same_restart nodes (decimal n) n i.0 small (h.0, refl) i.2 ∙ sym i.1
one_event one nodes line (Check x c) f small h g =
    let there : Says nodes (codes "check" ++ 32 ∷ (spaced (x ∷ c ∷ []))) f =
    subst (λ (l : List ℕ). Says nodes l f) h.2 g in
    let s = splits nodes (codes "check") (spaced (x ∷ c ∷ [])) f (unspaced_word (codes "check") refl) there in
    let i = is_check nodes (spaced (x ∷ c ∷ [])) f s.0 s.1 in
    same_check nodes (spaced (x ∷ c ∷ [])) x i.0 c i.1 (h.0, h.1, refl) i.3 ∙ sym i.2
one_event one nodes line (ListHistory x c limit) f small h g =
    let there : Says nodes (codes "list" ++ 32 ∷ (spaced (x ∷ c ∷ h.2 ∷ []))) f =
    subst (λ (l : List ℕ). Says nodes l f) h.4 g in
    let s = splits nodes (codes "list") (spaced (x ∷ c ∷ h.2 ∷ [])) f (unspaced_word (codes "list") refl) there in
    let i = is_list nodes (spaced (x ∷ c ∷ h.2 ∷ [])) f s.0 s.1 in
    same_list nodes (spaced (x ∷ c ∷ h.2 ∷ [])) x i.0 c i.1 limit i.2 (h.0, h.1, h.2, h.3, refl) i.4 ∙ sym i.3
one_event one nodes line BrokerRestart f small h g = alone nodes f (subst (λ (l : List ℕ). Says nodes l f) h g)

-- ---- what is passed over

starts : (line s : List ℕ) (b : ℕ) → line ≡ b ∷ s → b ≢ 35 → IsPassedOver line → ⊥
starts line s b e other p = other (subst IsPassedOver e p)

pub says_something : (nodes : ℕ) (line : List ℕ) (e : Event) → Says nodes line e → IsPassedOver line → ⊥
says_something nodes line (Epoch e) h p = starts line _ 101 h.1 (λ v. omega arith) p
says_something nodes line (Connect x n) h p = starts line _ 99 h.2 (λ v. omega arith) p
says_something nodes line (Ask x c) h p = starts line _ 97 h.2 (λ v. omega arith) p
says_something nodes line (AskFrom x c) h p = starts line _ 97 h.2 (λ v. omega arith) p
says_something nodes line (Read x c) h p = starts line _ 114 h.2 (λ v. omega arith) p
says_something nodes line (Finish x c) h p = starts line _ 102 h.2 (λ v. omega arith) p
says_something nodes line (Publish c [] body) h p = starts line _ 112 h.3 (λ v. omega arith) p
says_something nodes line (Publish c (k ∷ ks) body) h p = starts line _ 112 h.4 (λ v. omega arith) p
says_something nodes line (PublishBy x c [] body) h p = starts line _ 112 h.4 (λ v. omega arith) p
says_something nodes line (PublishBy x c (k ∷ ks) body) h p = starts line _ 112 h.5 (λ v. omega arith) p
says_something nodes line (Deliver n i) h p = starts line _ 100 h.2 (λ v. omega arith) p
says_something nodes line (Take x) h p = starts line _ 116 h.1 (λ v. omega arith) p
says_something nodes line (Break x) h p = starts line _ 98 h.1 (λ v. omega arith) p
says_something nodes line (Leave x c) h p = starts line _ 108 h.2 (λ v. omega arith) p
says_something nodes line (Trim c k) h p = starts line _ 116 h.2 (λ v. omega arith) p
says_something nodes line (Forget c) h p = starts line _ 102 h.1 (λ v. omega arith) p
says_something nodes line (SetSize name n) h p = starts line _ 115 h.3 (λ v. omega arith) p
says_something nodes line (Restart n) h p = starts line _ 114 h.1 (λ v. omega arith) p
says_something nodes line (Check x c) h p = starts line _ 99 h.2 (λ v. omega arith) p
says_something nodes line (ListHistory x c limit) h p = starts line _ 108 h.4 (λ v. omega arith) p
says_something nodes line BrokerRestart h p = starts line _ 98 h (λ v. omega arith) p
