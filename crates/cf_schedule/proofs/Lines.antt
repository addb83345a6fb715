-- A line, cut behind its first word: of the kinds of line one alone has that word.
use Rattle.std.proofs.Common.{◌≡◌, ◌≢◌, ℕ, ◌<◌, ◌≤◌, ℤ, Bool, true, false, List, [], ◌∷◌, ◌++◌, codes, refl, sym, ap}
use Rattle.std.proofs.Common.{◌∙◌}
use Rattle.std.specs.Str.{bytes_eq}
use Rattle.std.specs.Fmt.{decimal}
use Rattle.std.proofs.lemmas.Bool.{false≢true}
use Rattle.cf_schedule.specs.Word.{IsClientName, IsChannelName, IsKey, IsNamespaceName}
use Rattle.cf_machine.specs.Event.{Event, Epoch, Connect, Ask, AskFrom, Read, Finish, Publish, PublishBy, Deliver, Take}
use Rattle.cf_machine.specs.Event.{Break, Leave, Trim, Forget, BrokerRestart, SetSize, Restart, Check, ListHistory}
use Rattle.cf_machine.specs.TraceLine.{spaced}
use Rattle.cf_schedule.specs.ScheduleLine.{Says, IsEpochWord, IsLimit, IsData, last_number, most_left}
use Rattle.cf_protocol.specs.Settings.{largest_size}
use Rattle.cf_schedule.specs.LineRead.{IsUnspaced, IsNone, IsPublication, publish_word, put_word}
use Rattle.cf_schedule.proofs.Spacing.{one_cut, never_cut, unspaced_word}

-- what a publish's word has more where it has a key
abbrev pub word_end : List ℕ → List ℕ
word_end [] = []
word_end (k ∷ ks) = codes "key"

abbrev pub word_of : Event → List ℕ
word_of (Epoch e) = codes "epoch"
word_of (Connect x n) = codes "connect"
word_of (Ask x c) = codes "ask"
word_of (AskFrom x c) = codes "askfrom"
word_of (Read x c) = codes "read"
word_of (Finish x c) = codes "finish"
word_of (Publish c key body) = codes "publish" ++ word_end key
word_of (PublishBy x c key body) = codes "put" ++ word_end key
word_of (Deliver n i) = codes "deliver"
word_of (Take x) = codes "take"
word_of (Break x) = codes "break"
word_of (Leave x c) = codes "leave"
word_of (Trim c k) = codes "trim"
word_of (Forget c) = codes "forget"
word_of (SetSize name n) = codes "size"
word_of (Restart n) = codes "restart"
word_of (Check x c) = codes "check"
word_of (ListHistory x c limit) = codes "list"
word_of BrokerRestart = codes "brokerrestart"

-- what stands behind the first word and its space
abbrev pub Rest : ℕ → List ℕ → Event → Type 0
Rest nodes r (Epoch e) = IsEpochWord e × (r ≡ e)
Rest nodes r (Connect x n) = IsClientName x × (n < nodes) × (r ≡ spaced (x ∷ decimal n ∷ []))
Rest nodes r (Ask x c) = IsClientName x × IsChannelName c × (r ≡ spaced (x ∷ c ∷ []))
Rest nodes r (AskFrom x c) = IsClientName x × IsChannelName c × (r ≡ spaced (x ∷ c ∷ []))
Rest nodes r (Read x c) = IsClientName x × IsChannelName c × (r ≡ spaced (x ∷ c ∷ []))
Rest nodes r (Finish x c) = IsClientName x × IsChannelName c × (r ≡ spaced (x ∷ c ∷ []))
Rest nodes r (Publish c [] body) = IsChannelName c × (s : List ℕ) × IsData s body × (r ≡ spaced (c ∷ s ∷ []))
Rest nodes r (Publish c (k ∷ ks) body) =
    IsChannelName c × IsKey (k ∷ ks) × (s : List ℕ) × IsData s body × (r ≡ spaced (c ∷ (k ∷ ks) ∷ s ∷ []))
Rest nodes r (PublishBy x c [] body) =
    IsClientName x × IsChannelName c × (s : List ℕ) × IsData s body × (r ≡ spaced (x ∷ c ∷ s ∷ []))
Rest nodes r (PublishBy x c (k ∷ ks) body) =
    IsClientName x × IsChannelName c × IsKey (k ∷ ks) × (s : List ℕ) × IsData s body
    × (r ≡ spaced (x ∷ c ∷ (k ∷ ks) ∷ s ∷ []))
Rest nodes r (Deliver n i) = (n < nodes) × (i ≤ last_number) × (r ≡ spaced (decimal n ∷ decimal i ∷ []))
Rest nodes r (Take x) = IsClientName x × (r ≡ x)
Rest nodes r (Break x) = IsClientName x × (r ≡ x)
Rest nodes r (Leave x c) = IsClientName x × IsChannelName c × (r ≡ spaced (x ∷ c ∷ []))
Rest nodes r (Trim c k) = IsChannelName c × (k ≤ most_left) × (r ≡ spaced (c ∷ decimal k ∷ []))
Rest nodes r (Forget c) = IsChannelName c × (r ≡ c)
Rest nodes r (SetSize name n) = IsNamespaceName name × (1 ≤ n) × (n ≤ largest_size) × (r ≡ name ++ 61 ∷ decimal n)
Rest nodes r (Restart n) = (n < nodes) × (r ≡ decimal n)
Rest nodes r (Check x c) = IsClientName x × IsChannelName c × (r ≡ spaced (x ∷ c ∷ []))
Rest nodes r (ListHistory x c limit) =
    IsClientName x × IsChannelName c × (s : List ℕ) × IsLimit s limit × (r ≡ spaced (x ∷ c ∷ s ∷ []))
Rest nodes r BrokerRestart = ⊥

pub splits : (nodes : ℕ) (w r : List ℕ) (e : Event) → IsUnspaced w → Says nodes (w ++ 32 ∷ r) e → (w ≡ word_of e)
    × Rest nodes r e
splits nodes w r (Epoch e) u h = let p = one_cut w (codes "epoch") r e u (unspaced_word (codes "epoch") refl) h.1 in
    (p.0, (h.0, p.1))
splits nodes w r (Connect x n) u h = let p =
    one_cut w (codes "connect") r (spaced (x ∷ decimal n ∷ [])) u (unspaced_word (codes "connect") refl) h.2 in
    (p.0, (h.0, h.1, p.1))
splits nodes w r (Ask x c) u h = let p =
    one_cut w (codes "ask") r (spaced (x ∷ c ∷ [])) u (unspaced_word (codes "ask") refl) h.2 in (p.0, (h.0, h.1, p.1))
splits nodes w r (AskFrom x c) u h = let p =
    one_cut w (codes "askfrom") r (spaced (x ∷ c ∷ [])) u (unspaced_word (codes "askfrom") refl) h.2 in
    (p.0, (h.0, h.1, p.1))
splits nodes w r (Read x c) u h = let p =
    one_cut w (codes "read") r (spaced (x ∷ c ∷ [])) u (unspaced_word (codes "read") refl) h.2 in (p.0, (h.0, h.1, p.1))
splits nodes w r (Finish x c) u h = let p =
    one_cut w (codes "finish") r (spaced (x ∷ c ∷ [])) u (unspaced_word (codes "finish") refl) h.2 in
    (p.0, (h.0, h.1, p.1))
splits nodes w r (Publish c [] body) u h = let p =
    one_cut w (codes "publish") r (spaced (c ∷ h.1 ∷ [])) u (unspaced_word (codes "publish") refl) h.3 in
    (p.0, (h.0, h.1, h.2, p.1))
splits nodes w r (Publish c (k ∷ ks) body) u h = let p =
    one_cut w (codes "publishkey") r (spaced (c ∷ (k ∷ ks) ∷ h.2 ∷ [])) u (unspaced_word (codes "publishkey") refl)
    h.4 in (p.0, (h.0, h.1, h.2, h.3, p.1))
splits nodes w r (PublishBy x c [] body) u h = let p =
    one_cut w (codes "put") r (spaced (x ∷ c ∷ h.2 ∷ [])) u (unspaced_word (codes "put") refl) h.4 in
    (p.0, (h.0, h.1, h.2, h.3, p.1))
splits nodes w r (PublishBy x c (k ∷ ks) body) u h = let p =
    one_cut w (codes "putkey") r (spaced (x ∷ c ∷ (k ∷ ks) ∷ h.3 ∷ [])) u (unspaced_word (codes "putkey") refl) h.5 in
    (p.0, (h.0, h.1, h.2, h.3, h.4, p.1))
splits nodes w r (Deliver n i) u h = let p =
    one_cut w (codes "deliver") r (spaced (decimal n ∷ decimal i ∷ [])) u (unspaced_word (codes "deliver") refl) h.2 in
    (p.0, (h.0, h.1, p.1))
splits nodes w r (Take x) u h = let p = one_cut w (codes "take") r x u (unspaced_word (codes "take") refl) h.1 in
    (p.0, (h.0, p.1))
splits nodes w r (Break x) u h = let p = one_cut w (codes "break") r x u (unspaced_word (codes "break") refl) h.1 in
    (p.0, (h.0, p.1))
splits nodes w r (Leave x c) u h = let p =
    one_cut w (codes "leave") r (spaced (x ∷ c ∷ [])) u (unspaced_word (codes "leave") refl) h.2 in
    (p.0, (h.0, h.1, p.1))
splits nodes w r (Trim c k) u h = let p =
    one_cut w (codes "trim") r (spaced (c ∷ decimal k ∷ [])) u (unspaced_word (codes "trim") refl) h.2 in
    (p.0, (h.0, h.1, p.1))
splits nodes w r (Forget c) u h = let p = one_cut w (codes "forget") r c u (unspaced_word (codes "forget") refl) h.1 in
    (p.0, (h.0, p.1))
splits nodes w r (SetSize name n) u h = let p =
    one_cut w (codes "size") r (name ++ 61 ∷ decimal n) u (unspaced_word (codes "size") refl) h.3 in
    (p.0, (h.0, h.1, h.2, p.1))
splits nodes w r (Restart n) u h = let p =
    one_cut w (codes "restart") r (decimal n) u (unspaced_word (codes "restart") refl) h.1 in (p.0, (h.0, p.1))
splits nodes w r (Check x c) u h = let p =
    one_cut w (codes "check") r (spaced (x ∷ c ∷ [])) u (unspaced_word (codes "check") refl) h.2 in
    (p.0, (h.0, h.1, p.1))
splits nodes w r (ListHistory x c limit) u h = let p =
    one_cut w (codes "list") r (spaced (x ∷ c ∷ h.2 ∷ [])) u (unspaced_word (codes "list") refl) h.4 in
    (p.0, (h.0, h.1, h.2, h.3, p.1))
splits nodes w r BrokerRestart u h =
    absurd (never_cut (codes "brokerrestart") w r (unspaced_word (codes "brokerrestart") refl) (sym h))

other : (w v : List ℕ) → w ≡ v → bytes_eq w w ≡ true → bytes_eq w v ≡ false → ⊥
other w v e self differs = false≢true (sym differs ∙ ap (bytes_eq w) (sym e) ∙ self)

-- ---- the event whose line has this word

pub is_epoch : (nodes : ℕ) (r : List ℕ) (f : Event) → codes "epoch" ≡ word_of f → Rest nodes r f → (e : List ℕ)
    × (f ≡ Epoch e) × Rest nodes r (Epoch e)
is_epoch nodes r (Epoch e) v h = (e, refl, h)
is_epoch nodes r f v h = absurd (other (codes "epoch") (word_of f) v refl refl)

pub is_connect : (nodes : ℕ) (r : List ℕ) (f : Event) → codes "connect" ≡ word_of f → Rest nodes r f → (x : List ℕ)
    × (n : ℕ) × (f ≡ Connect x n) × Rest nodes r (Connect x n)
is_connect nodes r (Connect x n) v h = (x, n, refl, h)
is_connect nodes r f v h = absurd (other (codes "connect") (word_of f) v refl refl)

pub is_ask : (nodes : ℕ) (r : List ℕ) (f : Event) → codes "ask" ≡ word_of f → Rest nodes r f → (x : List ℕ)
    × (c : List ℕ) × (f ≡ Ask x c) × Rest nodes r (Ask x c)
is_ask nodes r (Ask x c) v h = (x, c, refl, h)
is_ask nodes r f v h = absurd (other (codes "ask") (word_of f) v refl refl)

pub is_askfrom : (nodes : ℕ) (r : List ℕ) (f : Event) → codes "askfrom" ≡ word_of f → Rest nodes r f → (x : List ℕ)
    × (c : List ℕ) × (f ≡ AskFrom x c) × Rest nodes r (AskFrom x c)
is_askfrom nodes r (AskFrom x c) v h = (x, c, refl, h)
is_askfrom nodes r f v h = absurd (other (codes "askfrom") (word_of f) v refl refl)

pub is_read : (nodes : ℕ) (r : List ℕ) (f : Event) → codes "read" ≡ word_of f → Rest nodes r f → (x : List ℕ)
    × (c : List ℕ) × (f ≡ Read x c) × Rest nodes r (Read x c)
is_read nodes r (Read x c) v h = (x, c, refl, h)
is_read nodes r f v h = absurd (other (codes "read") (word_of f) v refl refl)

pub is_finish : (nodes : ℕ) (r : List ℕ) (f : Event) → codes "finish" ≡ word_of f → Rest nodes r f → (x : List ℕ)
    × (c : List ℕ) × (f ≡ Finish x c) × Rest nodes r (Finish x c)
is_finish nodes r (Finish x c) v h = (x, c, refl, h)
is_finish nodes r f v h = absurd (other (codes "finish") (word_of f) v refl refl)

pub is_publish : (nodes : ℕ) (r : List ℕ) (f : Event) → codes "publish" ≡ word_of f → Rest nodes r f → (c : List ℕ)
    × (body : List ℕ) × (f ≡ Publish c [] body) × Rest nodes r (Publish c [] body)
is_publish nodes r (Publish c [] body) v h = (c, body, refl, h)
is_publish nodes r f v h = absurd (other (codes "publish") (word_of f) v refl refl)

pub is_publishkey : (nodes : ℕ) (r : List ℕ) (f : Event) → codes "publishkey" ≡ word_of f → Rest nodes r f
    → (c : List ℕ) × (k : ℕ) × (ks : List ℕ) × (body : List ℕ) × (f ≡ Publish c (k ∷ ks) body)
    × Rest nodes r (Publish c (k ∷ ks) body)
is_publishkey nodes r (Publish c (k ∷ ks) body) v h = (c, k, ks, body, refl, h)
is_publishkey nodes r f v h = absurd (other (codes "publishkey") (word_of f) v refl refl)

pub is_put : (nodes : ℕ) (r : List ℕ) (f : Event) → codes "put" ≡ word_of f → Rest nodes r f → (x : List ℕ)
    × (c : List ℕ) × (body : List ℕ) × (f ≡ PublishBy x c [] body) × Rest nodes r (PublishBy x c [] body)
is_put nodes r (PublishBy x c [] body) v h = (x, c, body, refl, h)
is_put nodes r f v h = absurd (other (codes "put") (word_of f) v refl refl)

pub is_putkey : (nodes : ℕ) (r : List ℕ) (f : Event) → codes "putkey" ≡ word_of f → Rest nodes r f → (x : List ℕ)
    × (c : List ℕ) × (k : ℕ) × (ks : List ℕ) × (body : List ℕ) × (f ≡ PublishBy x c (k ∷ ks) body)
    × Rest nodes r (PublishBy x c (k ∷ ks) body)
is_putkey nodes r (PublishBy x c (k ∷ ks) body) v h = (x, c, k, ks, body, refl, h)
is_putkey nodes r f v h = absurd (other (codes "putkey") (word_of f) v refl refl)

pub is_deliver : (nodes : ℕ) (r : List ℕ) (f : Event) → codes "deliver" ≡ word_of f → Rest nodes r f → (n : ℕ) × (i : ℕ)
    × (f ≡ Deliver n i) × Rest nodes r (Deliver n i)
is_deliver nodes r (Deliver n i) v h = (n, i, refl, h)
is_deliver nodes r f v h = absurd (other (codes "deliver") (word_of f) v refl refl)

pub is_take : (nodes : ℕ) (r : List ℕ) (f : Event) → codes "take" ≡ word_of f → Rest nodes r f → (x : List ℕ)
    × (f ≡ Take x) × Rest nodes r (Take x)
is_take nodes r (Take x) v h = (x, refl, h)
is_take nodes r f v h = absurd (other (codes "take") (word_of f) v refl refl)

pub is_break : (nodes : ℕ) (r : List ℕ) (f : Event) → codes "break" ≡ word_of f → Rest nodes r f → (x : List ℕ)
    × (f ≡ Break x) × Rest nodes r (Break x)
is_break nodes r (Break x) v h = (x, refl, h)
is_break nodes r f v h = absurd (other (codes "break") (word_of f) v refl refl)

pub is_leave : (nodes : ℕ) (r : List ℕ) (f : Event) → codes "leave" ≡ word_of f → Rest nodes r f → (x : List ℕ)
    × (c : List ℕ) × (f ≡ Leave x c) × Rest nodes r (Leave x c)
is_leave nodes r (Leave x c) v h = (x, c, refl, h)
is_leave nodes r f v h = absurd (other (codes "leave") (word_of f) v refl refl)

pub is_trim : (nodes : ℕ) (r : List ℕ) (f : Event) → codes "trim" ≡ word_of f → Rest nodes r f → (c : List ℕ) × (k : ℕ)
    × (f ≡ Trim c k) × Rest nodes r (Trim c k)
is_trim nodes r (Trim c k) v h = (c, k, refl, h)
is_trim nodes r f v h = absurd (other (codes "trim") (word_of f) v refl refl)

pub is_forget : (nodes : ℕ) (r : List ℕ) (f : Event) → codes "forget" ≡ word_of f → Rest nodes r f → (c : List ℕ)
    × (f ≡ Forget c) × Rest nodes r (Forget c)
is_forget nodes r (Forget c) v h = (c, refl, h)
is_forget nodes r f v h = absurd (other (codes "forget") (word_of f) v refl refl)

pub is_size : (nodes : ℕ) (r : List ℕ) (f : Event) → codes "size" ≡ word_of f → Rest nodes r f → (name : List ℕ)
    × (n : ℕ) × (f ≡ SetSize name n) × Rest nodes r (SetSize name n)
is_size nodes r (SetSize name n) v h = (name, n, refl, h)
is_size nodes r f v h = absurd (other (codes "size") (word_of f) v refl refl)

pub is_restart : (nodes : ℕ) (r : List ℕ) (f : Event) → codes "restart" ≡ word_of f → Rest nodes r f → (n : ℕ)
    × (f ≡ Restart n) × Rest nodes r (Restart n)
is_restart nodes r (Restart n) v h = (n, refl, h)
is_restart nodes r f v h = absurd (other (codes "restart") (word_of f) v refl refl)

pub is_check : (nodes : ℕ) (r : List ℕ) (f : Event) → codes "check" ≡ word_of f → Rest nodes r f → (x : List ℕ)
    × (c : List ℕ) × (f ≡ Check x c) × Rest nodes r (Check x c)
is_check nodes r (Check x c) v h = (x, c, refl, h)
is_check nodes r f v h = absurd (other (codes "check") (word_of f) v refl refl)

pub is_list : (nodes : ℕ) (r : List ℕ) (f : Event) → codes "list" ≡ word_of f → Rest nodes r f → (x : List ℕ)
    × (c : List ℕ) × (limit : ℤ) × (f ≡ ListHistory x c limit) × Rest nodes r (ListHistory x c limit)
is_list nodes r (ListHistory x c limit) v h = (x, c, limit, refl, h)
is_list nodes r f v h = absurd (other (codes "list") (word_of f) v refl refl)

-- ---- where there is none

pub no_epoch : (nodes : ℕ) (r : List ℕ) → ((e : List ℕ) → Rest nodes r (Epoch e) → ⊥)
    → IsNone (Says nodes (codes "epoch" ++ 32 ∷ r))
no_epoch nodes r lacks = λ e h.
    let s = splits nodes (codes "epoch") r e (unspaced_word (codes "epoch") refl) h in
    let i = is_epoch nodes r e s.0 s.1 in
    lacks i.0 i.2

pub no_connect : (nodes : ℕ) (r : List ℕ) → ((x : List ℕ) (n : ℕ) → Rest nodes r (Connect x n) → ⊥)
    → IsNone (Says nodes (codes "connect" ++ 32 ∷ r))
no_connect nodes r lacks = λ e h.
    let s = splits nodes (codes "connect") r e (unspaced_word (codes "connect") refl) h in
    let i = is_connect nodes r e s.0 s.1 in
    lacks i.0 i.1 i.3

pub no_ask : (nodes : ℕ) (r : List ℕ) → ((x : List ℕ) (c : List ℕ) → Rest nodes r (Ask x c) → ⊥)
    → IsNone (Says nodes (codes "ask" ++ 32 ∷ r))
no_ask nodes r lacks = λ e h.
    let s = splits nodes (codes "ask") r e (unspaced_word (codes "ask") refl) h in
    let i = is_ask nodes r e s.0 s.1 in
    lacks i.0 i.1 i.3

pub no_read : (nodes : ℕ) (r : List ℕ) → ((x : List ℕ) (c : List ℕ) → Rest nodes r (Read x c) → ⊥)
    → IsNone (Says nodes (codes "read" ++ 32 ∷ r))
no_read nodes r lacks = λ e h.
    let s = splits nodes (codes "read") r e (unspaced_word (codes "read") refl) h in
    let i = is_read nodes r e s.0 s.1 in
    lacks i.0 i.1 i.3

pub no_finish : (nodes : ℕ) (r : List ℕ) → ((x : List ℕ) (c : List ℕ) → Rest nodes r (Finish x c) → ⊥)
    → IsNone (Says nodes (codes "finish" ++ 32 ∷ r))
no_finish nodes r lacks = λ e h.
    let s = splits nodes (codes "finish") r e (unspaced_word (codes "finish") refl) h in
    let i = is_finish nodes r e s.0 s.1 in
    lacks i.0 i.1 i.3

no_publish : (nodes : ℕ) (r : List ℕ) → ((c : List ℕ) (body : List ℕ) → Rest nodes r (Publish c [] body) → ⊥)
    → IsNone (Says nodes (codes "publish" ++ 32 ∷ r))
no_publish nodes r lacks = λ e h.
    let s = splits nodes (codes "publish") r e (unspaced_word (codes "publish") refl) h in
    let i = is_publish nodes r e s.0 s.1 in
    lacks i.0 i.1 i.3

no_publishkey : (nodes : ℕ) (r : List ℕ) → ((c : List ℕ) (k : ℕ) (ks : List ℕ) (body : List ℕ)
    → Rest nodes r (Publish c (k ∷ ks) body) → ⊥) → IsNone (Says nodes (codes "publishkey" ++ 32 ∷ r))
no_publishkey nodes r lacks = λ e h.
    let s = splits nodes (codes "publishkey") r e (unspaced_word (codes "publishkey") refl) h in
    let i = is_publishkey nodes r e s.0 s.1 in
    lacks i.0 i.1 i.2 i.3 i.5

pub no_deliver : (nodes : ℕ) (r : List ℕ) → ((n : ℕ) (i : ℕ) → Rest nodes r (Deliver n i) → ⊥)
    → IsNone (Says nodes (codes "deliver" ++ 32 ∷ r))
no_deliver nodes r lacks = λ e h.
    let s = splits nodes (codes "deliver") r e (unspaced_word (codes "deliver") refl) h in
    let i = is_deliver nodes r e s.0 s.1 in
    lacks i.0 i.1 i.3

pub no_take : (nodes : ℕ) (r : List ℕ) → ((x : List ℕ) → Rest nodes r (Take x) → ⊥)
    → IsNone (Says nodes (codes "take" ++ 32 ∷ r))
no_take nodes r lacks = λ e h.
    let s = splits nodes (codes "take") r e (unspaced_word (codes "take") refl) h in
    let i = is_take nodes r e s.0 s.1 in
    lacks i.0 i.2

pub no_trim : (nodes : ℕ) (r : List ℕ) → ((c : List ℕ) (k : ℕ) → Rest nodes r (Trim c k) → ⊥)
    → IsNone (Says nodes (codes "trim" ++ 32 ∷ r))
no_trim nodes r lacks = λ e h.
    let s = splits nodes (codes "trim") r e (unspaced_word (codes "trim") refl) h in
    let i = is_trim nodes r e s.0 s.1 in
    lacks i.0 i.1 i.3

pub no_forget : (nodes : ℕ) (r : List ℕ) → ((c : List ℕ) → Rest nodes r (Forget c) → ⊥)
    → IsNone (Says nodes (codes "forget" ++ 32 ∷ r))
no_forget nodes r lacks = λ e h.
    let s = splits nodes (codes "forget") r e (unspaced_word (codes "forget") refl) h in
    let i = is_forget nodes r e s.0 s.1 in
    lacks i.0 i.2

pub no_askfrom : (nodes : ℕ) (r : List ℕ) → ((x : List ℕ) (c : List ℕ) → Rest nodes r (AskFrom x c) → ⊥)
    → IsNone (Says nodes (codes "askfrom" ++ 32 ∷ r))
no_askfrom nodes r lacks = λ e h.
    let s = splits nodes (codes "askfrom") r e (unspaced_word (codes "askfrom") refl) h in
    let i = is_askfrom nodes r e s.0 s.1 in
    lacks i.0 i.1 i.3

no_put : (nodes : ℕ) (r : List ℕ) → ((x : List ℕ) (c : List ℕ) (body : List ℕ) → Rest nodes r (PublishBy x c [] body)
    → ⊥) → IsNone (Says nodes (codes "put" ++ 32 ∷ r))
no_put nodes r lacks = λ e h.
    let s = splits nodes (codes "put") r e (unspaced_word (codes "put") refl) h in
    let i = is_put nodes r e s.0 s.1 in
    lacks i.0 i.1 i.2 i.4

no_putkey : (nodes : ℕ) (r : List ℕ) → ((x : List ℕ) (c : List ℕ) (k : ℕ) (ks : List ℕ) (body : List ℕ)
    → Rest nodes r (PublishBy x c (k ∷ ks) body) → ⊥) → IsNone (Says nodes (codes "putkey" ++ 32 ∷ r))
no_putkey nodes r lacks = λ e h.
    let s = splits nodes (codes "putkey") r e (unspaced_word (codes "putkey") refl) h in
    let i = is_putkey nodes r e s.0 s.1 in
    lacks i.0 i.1 i.2 i.3 i.4 i.6

pub no_break : (nodes : ℕ) (r : List ℕ) → ((x : List ℕ) → Rest nodes r (Break x) → ⊥)
    → IsNone (Says nodes (codes "break" ++ 32 ∷ r))
no_break nodes r lacks = λ e h.
    let s = splits nodes (codes "break") r e (unspaced_word (codes "break") refl) h in
    let i = is_break nodes r e s.0 s.1 in
    lacks i.0 i.2

pub no_leave : (nodes : ℕ) (r : List ℕ) → ((x : List ℕ) (c : List ℕ) → Rest nodes r (Leave x c) → ⊥)
    → IsNone (Says nodes (codes "leave" ++ 32 ∷ r))
no_leave nodes r lacks = λ e h.
    let s = splits nodes (codes "leave") r e (unspaced_word (codes "leave") refl) h in
    let i = is_leave nodes r e s.0 s.1 in
    lacks i.0 i.1 i.3

pub no_size : (nodes : ℕ) (r : List ℕ) → ((name : List ℕ) (n : ℕ) → Rest nodes r (SetSize name n) → ⊥)
    → IsNone (Says nodes (codes "size" ++ 32 ∷ r))
no_size nodes r lacks = λ e h.
    let s = splits nodes (codes "size") r e (unspaced_word (codes "size") refl) h in
    let i = is_size nodes r e s.0 s.1 in
    lacks i.0 i.1 i.3

pub no_restart : (nodes : ℕ) (r : List ℕ) → ((n : ℕ) → Rest nodes r (Restart n) → ⊥)
    → IsNone (Says nodes (codes "restart" ++ 32 ∷ r))
no_restart nodes r lacks = λ e h.
    let s = splits nodes (codes "restart") r e (unspaced_word (codes "restart") refl) h in
    let i = is_restart nodes r e s.0 s.1 in
    lacks i.0 i.2

pub no_check : (nodes : ℕ) (r : List ℕ) → ((x : List ℕ) (c : List ℕ) → Rest nodes r (Check x c) → ⊥)
    → IsNone (Says nodes (codes "check" ++ 32 ∷ r))
no_check nodes r lacks = λ e h.
    let s = splits nodes (codes "check") r e (unspaced_word (codes "check") refl) h in
    let i = is_check nodes r e s.0 s.1 in
    lacks i.0 i.1 i.3

pub no_list : (nodes : ℕ) (r : List ℕ) → ((x : List ℕ) (c : List ℕ) (limit : ℤ) → Rest nodes r (ListHistory x c limit)
    → ⊥) → IsNone (Says nodes (codes "list" ++ 32 ∷ r))
no_list nodes r lacks = λ e h.
    let s = splits nodes (codes "list") r e (unspaced_word (codes "list") refl) h in
    let i = is_list nodes r e s.0 s.1 in
    lacks i.0 i.1 i.2 i.4

-- ---- what is published, with a key or without

pub publish_said : (nodes : ℕ) (keyed : Bool) (r c k body : List ℕ) → IsPublication keyed c k body r
    → Says nodes (publish_word keyed ++ 32 ∷ r) (Publish c k body)
publish_said nodes false r c [] body h =
    (h.0, h.1, h.4, ap (λ t. codes "publish" ++ 32 ∷ t) (h.5 ∙ ap (λ t. c ++ 32 ∷ t) h.3.1))
publish_said nodes false r c (k ∷ ks) body h = absurd (cc (h.3.0))
publish_said nodes true r c [] body h = absurd (false≢true h.3.0)
publish_said nodes true r c (k ∷ ks) body h =
    (h.0, h.3.0, h.1, h.4, ap (λ t. codes "publishkey" ++ 32 ∷ t) (h.5 ∙ ap (λ t. c ++ 32 ∷ t) h.3.1))

pub no_publication : (nodes : ℕ) (keyed : Bool) (r : List ℕ)
    → ((c k body : List ℕ) → IsPublication keyed c k body r → ⊥) → IsNone (Says nodes (publish_word keyed ++ 32 ∷ r))
no_publication nodes false r lacks =
    no_publish nodes r (λ c body h. lacks c [] body (h.0, h.1, h.1, (refl, refl), h.2, h.3))
no_publication nodes true r lacks =
    no_publishkey nodes r (λ c k ks body h. lacks c (k ∷ ks) body
    (h.0, h.2, spaced ((k ∷ ks) ∷ h.2 ∷ []), (h.1, refl), h.3, h.4))

pub put_said : (nodes : ℕ) (keyed : Bool) (r x end c k body : List ℕ) → IsClientName x → r ≡ x ++ 32 ∷ end
    → IsPublication keyed c k body end → Says nodes (put_word keyed ++ 32 ∷ r) (PublishBy x c k body)
put_said nodes false r x end c [] body name e h = (
  name,
  h.0,
  h.1,
  h.4,
  ap (λ t. codes "put" ++ 32 ∷ t)
      (e ∙ ap (λ t. x ++ 32 ∷ t) (h.5 ∙ ap (λ t. c ++ 32 ∷ t) h.3.1)),
)
put_said nodes false r x end c (k ∷ ks) body name e h = absurd (cc (h.3.0))
put_said nodes true r x end c [] body name e h = absurd (false≢true h.3.0)
put_said nodes true r x end c (k ∷ ks) body name e h = (
  name,
  h.0,
  h.3.0,
  h.1,
  h.4,
  ap (λ t. codes "putkey" ++ 32 ∷ t)
      (e ∙ ap (λ t. x ++ 32 ∷ t) (h.5 ∙ ap (λ t. c ++ 32 ∷ t) h.3.1)),
)

pub no_put_publication : (nodes : ℕ) (keyed : Bool) (r : List ℕ)
    → ((x c k body end : List ℕ) → IsClientName x → r ≡ x ++ 32 ∷ end → IsPublication keyed c k body end → ⊥)
    → IsNone (Says nodes (put_word keyed ++ 32 ∷ r))
no_put_publication nodes false r lacks =
    no_put nodes r (λ x c body h. lacks x c [] body (spaced (c ∷ h.2 ∷ [])) h.0 h.4
    (h.1, h.2, h.2, (refl, refl), h.3, refl))
no_put_publication nodes true r lacks =
    no_putkey nodes r (λ x c k ks body h. lacks x c (k ∷ ks) body (spaced (c ∷ (k ∷ ks) ∷ h.3 ∷ [])) h.0 h.5
    (h.1, h.3, spaced ((k ∷ ks) ∷ h.3 ∷ []), (h.2, refl), h.4, refl))

-- the word is none of a line's
abbrev pub IsStrange : List ℕ → Type 0
IsStrange w =
    (w ≢ codes "epoch") × (w ≢ codes "connect") × (w ≢ codes "ask") × (w ≢ codes "askfrom") × (w ≢ codes "read")
    × (w ≢ codes "finish") × (w ≢ codes "publish") × (w ≢ codes "publishkey") × (w ≢ codes "put")
    × (w ≢ codes "putkey")
    × (w ≢ codes "deliver") × (w ≢ codes "take") × (w ≢ codes "break") × (w ≢ codes "leave") × (w ≢ codes "trim")
    × (w ≢ codes "forget") × (w ≢ codes "size") × (w ≢ codes "restart") × (w ≢ codes "check") × (w ≢ codes "list")

unknown : (nodes : ℕ) (w r : List ℕ) → IsStrange w → (e : Event) → w ≡ word_of e → Rest nodes r e → ⊥
unknown nodes w r d (Epoch e) h rest = d.0 h
unknown nodes w r d (Connect x n) h rest = d.1 h
unknown nodes w r d (Ask x c) h rest = d.2 h
unknown nodes w r d (AskFrom x c) h rest = d.3 h
unknown nodes w r d (Read x c) h rest = d.4 h
unknown nodes w r d (Finish x c) h rest = d.5 h
unknown nodes w r d (Publish c [] body) h rest = d.6 h
unknown nodes w r d (Publish c (k ∷ ks) body) h rest = d.7 h
unknown nodes w r d (PublishBy x c [] body) h rest = d.8 h
unknown nodes w r d (PublishBy x c (k ∷ ks) body) h rest = d.9 h
unknown nodes w r d (Deliver n i) h rest = d.10 h
unknown nodes w r d (Take x) h rest = d.11 h
unknown nodes w r d (Break x) h rest = d.12 h
unknown nodes w r d (Leave x c) h rest = d.13 h
unknown nodes w r d (Trim c k) h rest = d.14 h
unknown nodes w r d (Forget c) h rest = d.15 h
unknown nodes w r d (SetSize name n) h rest = d.16 h
unknown nodes w r d (Restart n) h rest = d.17 h
unknown nodes w r d (Check x c) h rest = d.18 h
unknown nodes w r d (ListHistory x c limit) h rest = d.19 h
unknown nodes w r d BrokerRestart h rest = rest

pub no_word : (nodes : ℕ) (w r : List ℕ) → IsUnspaced w → IsStrange w → IsNone (Says nodes (w ++ 32 ∷ r))
no_word nodes w r u d = λ e h. let s = splits nodes w r e u h in unknown nodes w r d e s.0 s.1

-- a line of one word is no event but one
pub no_space : (nodes : ℕ) (line : List ℕ) → IsUnspaced line → line ≢ codes "brokerrestart" → IsNone (Says nodes line)
no_space nodes line u differs (Epoch e) h = never_cut line (codes "epoch") e u h.1
no_space nodes line u differs (Connect x n) h = never_cut line (codes "connect") (spaced (x ∷ decimal n ∷ [])) u h.2
no_space nodes line u differs (Ask x c) h = never_cut line (codes "ask") (spaced (x ∷ c ∷ [])) u h.2
no_space nodes line u differs (AskFrom x c) h = never_cut line (codes "askfrom") (spaced (x ∷ c ∷ [])) u h.2
no_space nodes line u differs (Read x c) h = never_cut line (codes "read") (spaced (x ∷ c ∷ [])) u h.2
no_space nodes line u differs (Finish x c) h = never_cut line (codes "finish") (spaced (x ∷ c ∷ [])) u h.2
no_space nodes line u differs (Publish c [] body) h = never_cut line (codes "publish") (spaced (c ∷ h.1 ∷ [])) u h.3
no_space nodes line u differs (Publish c (k ∷ ks) body) h =
    never_cut line (codes "publishkey") (spaced (c ∷ (k ∷ ks) ∷ h.2 ∷ [])) u h.4
no_space nodes line u differs (PublishBy x c [] body) h = never_cut line (codes "put") (spaced (x ∷ c ∷ h.2 ∷ [])) u h.4
no_space nodes line u differs (PublishBy x c (k ∷ ks) body) h =
    never_cut line (codes "putkey") (spaced (x ∷ c ∷ (k ∷ ks) ∷ h.3 ∷ [])) u h.5
no_space nodes line u differs (Deliver n i) h =
    never_cut line (codes "deliver") (spaced (decimal n ∷ decimal i ∷ [])) u h.2
no_space nodes line u differs (Take x) h = never_cut line (codes "take") x u h.1
no_space nodes line u differs (Break x) h = never_cut line (codes "break") x u h.1
no_space nodes line u differs (Leave x c) h = never_cut line (codes "leave") (spaced (x ∷ c ∷ [])) u h.2
no_space nodes line u differs (Trim c k) h = never_cut line (codes "trim") (spaced (c ∷ decimal k ∷ [])) u h.2
no_space nodes line u differs (Forget c) h = never_cut line (codes "forget") c u h.1
no_space nodes line u differs (SetSize name n) h = never_cut line (codes "size") (name ++ 61 ∷ decimal n) u h.3
no_space nodes line u differs (Restart n) h = never_cut line (codes "restart") (decimal n) u h.1
no_space nodes line u differs (Check x c) h = never_cut line (codes "check") (spaced (x ∷ c ∷ [])) u h.2
no_space nodes line u differs (ListHistory x c limit) h =
    never_cut line (codes "list") (spaced (x ∷ c ∷ h.2 ∷ [])) u h.4
no_space nodes line u differs BrokerRestart h = differs h
