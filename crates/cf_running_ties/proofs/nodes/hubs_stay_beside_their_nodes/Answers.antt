-- Each clause is a law of the theory, one for each section that touches a node, with its arguments in order.
use Rattle.cf_running.specs.Server.{lists_of}
use Rattle.cf_running_ties.proofs.Numbered.{bounded, past}
use Rattle.cf_running_ties.proofs.OneSession.{attaches, detaches, one, starts, stays, wanders}
use Rattle.cf_running_ties.proofs.WholeNodes.{delivers, ticks}
use Rattle.cf_running_ties.proofs.nodes.hubs_stay_beside_their_nodes.Goals as goal

pub returns-clause-starts : goal.returns-clause-starts
returns-clause-starts c = starts

pub returns-clause-delivers : goal.returns-clause-delivers
returns-clause-delivers c = λ is_aside site s n numbers old new x h first d.
    delivers is_aside site s n numbers old new h x (c.hub_moves_are_sections.ensures is_aside (lists_of site s)) d first
    (past old.sessions) (bounded old)

pub returns-clause-ticks : goal.returns-clause-ticks
returns-clause-ticks c = λ is_aside site s n now numbers old new h d.
    ticks is_aside site s n numbers old new h now (c.hub_moves_are_sections.ensures is_aside (lists_of site s)) d
    (past old.sessions) (bounded old)

pub returns-clause-attaches : goal.returns-clause-attaches
returns-clause-attaches c = λ is_aside site s n j now numbers old new user client h o none its_connection there.
    attaches is_aside site s n numbers old h new j now user
    (c.hub_moves_are_sections.ensures is_aside (lists_of site s)) o none client its_connection there

pub returns-clause-wanders : goal.returns-clause-wanders
returns-clause-wanders c = λ is_aside site s n j now numbers old new user h o none there.
    wanders is_aside site s n numbers old h new j now user (c.hub_moves_are_sections.ensures is_aside (lists_of site s))
    o none there

pub returns-clause-one : goal.returns-clause-one
returns-clause-one c = λ is_aside site s n j k numbers old new f a h at others is node attached says.
    one is_aside site s n numbers old h new j k f a at others is node attached says

pub returns-clause-detaches : goal.returns-clause-detaches
returns-clause-detaches c = λ is_aside site s n j k code numbers old new h at none others.
    detaches is_aside site s n numbers old h new j k code at none others

pub returns-clause-stays : goal.returns-clause-stays
returns-clause-stays c = λ is_aside site s n numbers hub section h u. stays is_aside site s n numbers hub h section u
