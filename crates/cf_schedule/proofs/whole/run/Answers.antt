-- The world begins tied to the machine's start, so what `carry_all` tells is the trace; and that one is safe, as
-- `safe_always`
-- has it.
use Rattle.std.proofs.Common.{ap, map}
use Rattle.cf_machine.specs.Config.{Config}
use Rattle.cf_world.specs.Entries.{shown_entry}
use Rattle.cf_schedule.specs.Seen.{seen, shown_config}
use Rattle.cf_schedule.proofs.Runs.{carries, carries-none, safe-so}
use Rattle.cf_schedule.proofs.whole.run.Goals as goal

pub returns-in-Err-clause-stopped : goal.returns-in-Err-clause-stopped
returns-in-Err-clause-stopped c =
    carries-none c.safe_always.ensures (shown_config c.args.config.now) c.args.events.now
    (record { entries = c.new.result }) (ap (map shown_entry) c.new.ensures.items)

pub returns-in-Ok-carried-clause-whole : goal.returns-in-Ok-carried-clause-whole
returns-in-Ok-carried-clause-whole c =
    c.in-Ok-carried.ensures.whole (shown_config c.args.config.now) c.in-Ok.ensures.tied c.in-Ok.ensures.count
    (ap (map shown_entry) c.new.ensures.items)

pub returns-in-Ok-carried-clause-safe : goal.returns-in-Ok-carried-clause-safe
returns-in-Ok-carried-clause-safe c =
    let cfg : Config = shown_config c.args.config.now in
    let told = c.in-Ok-carried.ensures.whole cfg c.in-Ok.ensures.tied c.in-Ok.ensures.count
    (ap (map shown_entry) c.new.ensures.items) in
    safe-so c.safe_always.ensures cfg (map seen c.args.events.now) c.carry_all-carried.new.got told

pub returns-in-Err-carried-clause-stopped : goal.returns-in-Err-carried-clause-stopped
returns-in-Err-carried-clause-stopped c =
    let cfg : Config = shown_config c.args.config.now in
    let front = c.in-Err-carried.ensures.front cfg c.in-Ok.ensures.tied c.in-Ok.ensures.count
    (ap (map shown_entry) c.new.ensures.items) in
    carries c.safe_always.ensures cfg c.args.events.now c.in-Err-carried.done c.carry_all-carried.new.got front.0
    front.1
