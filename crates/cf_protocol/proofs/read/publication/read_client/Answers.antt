-- The two members are asked for in turn, and each that can't be read is told.
use Rattle.std.proofs.Common.{rules}
use Rattle.cf_protocol.proofs.Objects.{object_by}
use Rattle.cf_protocol.proofs.read.publication.read_client.Goals as goal

pub text-requires : goal.text-requires
text-requires c = let m = c.in_ok-members.members in let o =
    object_by m.text.now m.found.items c.requires.0 (c.in_ok-members.ensures c.requires.0 c.requires.1) in
    (o.fields, o.reads)

pub text-requires-2 : goal.text-requires-2
text-requires-2 c = let m = c.in_ok-members.members in let o =
    object_by m.text.now m.found.items c.requires.0 (c.in_ok-members.ensures c.requires.0 c.requires.1) in
    (o.fields, o.reads)

pub returns-in_err-client : goal.returns-in_err-client
returns-in_err-client c t at =
    let m = c.in_ok-members.members in
    let o = object_by m.text.now m.found.items t (c.in_ok-members.ensures t at) in
    let was = c.in_err-client.ensures o.fields o.reads in
    rw o.is (search rules)

pub returns-in_err-user : goal.returns-in_err-user
returns-in_err-user c t at =
    let m = c.in_ok-members.members in
    let o = object_by m.text.now m.found.items t (c.in_ok-members.ensures t at) in
    let client = c.in_ok-client.ensures o.fields o.reads in
    let was = c.in_err-user.ensures o.fields o.reads in
    rw o.is (search rules)

pub returns : goal.returns
returns c t at =
    let m = c.in_ok-members.members in
    let o = object_by m.text.now m.found.items t (c.in_ok-members.ensures t at) in
    let client = c.in_ok-client.ensures o.fields o.reads in
    let user = c.in_ok-user.ensures o.fields o.reads in
    rw o.is (search rules)
