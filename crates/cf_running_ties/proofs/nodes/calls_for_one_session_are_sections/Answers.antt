-- Both clauses are laws of the theory, for a step that says something and for one that may close.
use Rattle.cf_hub.specs.WantOfMemory.{OrCloses}
use Rattle.cf_hub.specs.Wordings.{plain}
use Rattle.cf_running_ties.proofs.OneSession.{meets, moves}
use Rattle.cf_running_ties.proofs.nodes.calls_for_one_session_are_sections.Goals as goal

pub returns-clause-moves : goal.returns-clause-moves
returns-clause-moves c = λ is_aside site s n j k numbers old new f g t h at o keep m.
    moves is_aside site s n numbers old h new j k f g t at o keep m

pub returns-clause-meets : goal.returns-clause-meets
returns-clause-meets c = λ is_aside site s n j k numbers old new f g t h at o r m.
    meets is_aside site s n numbers old h new j k (λ hit. OrCloses hit plain f) g t at o r m
