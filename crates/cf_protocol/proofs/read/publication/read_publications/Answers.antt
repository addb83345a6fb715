-- The loop keeps that the publications so far are read; one that can't be is told.
use Rattle.std.proofs.Common.{refl, ap, ◌∙◌, arith, rules, codes}
use Rattle.cf_json.specs.Spans.{IsAt}
use Rattle.cf_protocol.specs.Fields.{◌>>=◌, object_as, read_all}
use Rattle.cf_protocol.specs.Reading.{Stand, items_at}
use Rattle.cf_protocol.specs.Reply.{publication}
use Rattle.cf_protocol.proofs.ItemsRead.{beside, zip_length, read_goes_on, read_stops, read_ends}
use Rattle.cf_protocol.proofs.Objects.{objects_by_items}
use Rattle.cf_protocol.proofs.Standing.{some_and}
use Rattle.cf_protocol.proofs.read.publication.read_publications.Goals as goal

pub read_published-requires : goal.read_published-requires
read_published-requires c =
    let text = c.args.members.now.text.now in
    let found = some_and (items_at (codes "publications") c.requires.0) (λ ts. Stand text c.in_ok-spans.spans.items ts)
    (c.in_ok-spans.ensures c.requires.0 c.requires.1) in
    let at = beside (λ s t. IsAt text t s) c.deref-span-items.result.now found.0 c.loop-span.span-index
    _ (record { from = 0; to = 0 }) (rw c.deref-span-items.ensures.value found.2) c.loop-span-test.true refl in
    (at.item, at.is)

pub returns-in_err-publication : goal.returns-in_err-publication
returns-in_err-publication c fs reads =
    let text = c.args.members.now.text.now in
    let found = some_and (items_at (codes "publications") fs) (λ ts. Stand text c.in_ok-spans.spans.items ts)
    (c.in_ok-spans.ensures fs reads) in
    let ts = found.0 in
    let at = beside (λ s t. IsAt text t s) c.deref-span-items.result.now ts c.loop-span.span-index
    _ (record { from = 0; to = 0 }) (rw c.deref-span-items.ensures.value found.2) c.loop-span-test.true refl in
    let stops = read_stops (object_as publication) ts c.loop-span.span-index c.loop-span.publications.items at.item
    (c.loop-span.invariant ts (rw c.deref-span-items.ensures.value found.2)) at.at in
    let was = c.in_err-publication.ensures at.item at.is in
    let is = objects_by_items publication fs "publications"
    ∙ ap (λ o. o >>= read_all (object_as publication)) found.1 in
    rw is (search (rules, stops))

pub loop-span-preserved : goal.loop-span-preserved
loop-span-preserved c ts stand =
    let text = c.args.members.now.text.now in
    let at = beside (λ s t. IsAt text t s) c.deref-span-items.result.now ts c.loop-span.span-index
    _ (record { from = 0; to = 0 }) stand c.loop-span-test.true refl in
    rw c.in_ok-push.ensures.items (read_goes_on (object_as publication) ts c.loop-span.span-index
    c.loop-span.publications.items at.item c.in_ok-publication.publication (c.loop-span.invariant ts stand) at.at
    (c.in_ok-publication.ensures at.item at.is))

pub returns-in_err-spans : goal.returns-in_err-spans
returns-in_err-spans c fs reads =
    let was = c.in_err-spans.ensures fs reads in
    rw (objects_by_items publication fs "publications") (search rules)

pub returns : goal.returns
returns c fs reads =
    let text = c.args.members.now.text.now in
    let spans = c.deref-span-items.result.now in
    let found = some_and (items_at (codes "publications") fs) (λ ts. Stand text c.in_ok-spans.spans.items ts)
    (c.in_ok-spans.ensures fs reads) in
    let ts = found.0 in
    let stand : Stand text spans ts = rw c.deref-span-items.ensures.value found.2 in
    let same = zip_length (λ s t. IsAt text t s) spans ts stand in
    objects_by_items publication fs "publications" ∙ ap (λ o. o >>= read_all (object_as publication)) found.1
    ∙ read_ends (object_as publication) ts c.loop-span.span-index c.loop-span.publications.items
    (c.loop-span.invariant ts stand) (omega arith)
