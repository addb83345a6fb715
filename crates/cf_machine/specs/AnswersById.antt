-- A reply's text has an id and no channel. It needs none: an answer under the id of an ask that is out is for the
-- channel that asks.
use Rattle.std.specs.Prelude.{◌≡◌, ℕ, List, [], ◌∷◌}
use Rattle.cf_protocol.specs.Note.{Note, Reply, Fails}
use Rattle.cf_model.specs.Clients.{Mode, Asking}

abbrev pub IsForChannel : List ℕ → Mode → Note → Type 0
IsForChannel c (Asking id from last) (Reply d k was r) = k ≡ id → d ≡ c
IsForChannel c (Asking id from last) (Fails d k code) = k ≡ id → d ≡ c
IsForChannel c m n = Unit {0}

abbrev pub AreForChannel : List ℕ → Mode → List Note → Type 0
AreForChannel c m [] = Unit {0}
AreForChannel c m (n ∷ ns) = IsForChannel c m n × AreForChannel c m ns
