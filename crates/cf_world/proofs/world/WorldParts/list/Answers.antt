-- A limit of 32 bits can be read back (`limits`), so what `serve` promises of such a command holds.
use Rattle.std.proofs.Common.{◌≡◌, ℤ, pos, negsuc, w32, of_z, to_z, FitsSigned, arith, subst}
use Rattle.std.proofs.lemmas.Bool.Decides.{nat_tests}
use Rattle.std.proofs.lemmas.Int.{to_z-of_z}
use Rattle.std.proofs.lemmas.Result.{on_ok_weaker}
use Rattle.std.specs.Prelude.{IsTrue}
use Rattle.cf_protocol.specs.Fields.{is_limit}
use Rattle.cf_world.specs.ClientCommands.{IsReadBack, event_by}
use Rattle.cf_world.specs.Tie.{GoesOn}
use Rattle.cf_world.specs.declared.client_command.ClientCommand.TheVariants as client_command
use Rattle.cf_world.proofs.world.WorldParts.list.Goals as goal

-- a limit of 32 bits is one of the protocol's
limits : (z : ℤ) → FitsSigned w32 z → IsTrue (is_limit z)
limits (pos n) h = grind (arith, nat_tests, h)
limits (negsuc n) h = grind (arith, nat_tests, h)

pub returns : goal.returns
returns c =
    let back : to_z w32 (of_z w32 c.args.limit) ≡ c.args.limit = to_z-of_z w32 c.args.limit c.ranges.limit in
    on_ok_weaker c.serve.result
    (λ goes. subst (λ (z : ℤ). IsReadBack (client_command.List c.args.channel z)
    → GoesOn (event_by (client_command.List c.args.channel z) c.args.name.now) c.args.self.now c.serve.new.self)
    back goes
    (limits c.args.limit c.ranges.limit))
    c.serve.ensures
