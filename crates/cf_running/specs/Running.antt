-- What is claimed of every run of the server's sections. (This project's own profile.)
use Rattle.std.specs.Prelude.{◌≡◌, ◌<◌, ◌≤◌, ℕ, List, length}
use Rattle.cf_protocol.specs.Position.{Position}
use Rattle.cf_protocol.specs.Note.{Lists}
use Rattle.cf_machine.specs.LooseRun.{Happening, loose_run}
use Rattle.cf_machine.specs.PublicationList.{body_at}
use Rattle.cf_machine.specs.StreamSafety.{Safe}
use Rattle.cf_machine.specs.Told.{loose_trace}
use Rattle.cf_machine.specs.Trace.{Published, Entry}
use Rattle.cf_machine.specs.World as machine
use Rattle.cf_running.specs.Server.{Section, Site, Told, lists_of, ran, start, told}
use Rattle.std.specs.Prelude.{[], ◌∷◌}

-- what an entry of a trace tells, and whom, without its number
abbrev pub stripped : List Entry → List Told
stripped [] = []
stripped (e ∷ es) = record { client = e.client; item = e.item } ∷ stripped es

-- A run of sections is a loose run of the machine: their applications are told the same, the same is published, and
-- that is safe.
pub record IsLooseRun (site : Site) (sections : List Section) : Type 0 where
  pub happenings : List Happening
  pub same : told site start sections ≡ stripped (loose_trace site.config 1 machine.start happenings)
  pub lists : (channel epoch : List ℕ)
      → lists_of site (ran site start sections) channel epoch ≡ (loose_run site.config machine.start
      happenings).broker.lists channel epoch
  pub safe : Safe site.config happenings (loose_trace site.config 1 machine.start happenings)

-- Whatever is told of a publication is the datum that the log of its channel's shard has at that place.
abbrev pub IsInLogs : Lists → Told → Type 0
IsInLogs lists t = (c : List ℕ) (p : Position) (body : List ℕ) → t.item ≡ Published c p body
    → (0 < p.offset) × (p.offset ≤ length (lists c p.epoch)) × (body ≡ body_at lists c p)
