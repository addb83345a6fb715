-- What the deque's front was is what waited first, and a close stays behind all texts.
use Rattle.std.proofs.Common.{◌∙◌, ap, sym, map, ◌++◌, drop, option_to_list, slice_get}
use Rattle.cf_queue.specs.OutQueue.{Text, Close, waiting, taken}
use Rattle.cf_queue.proofs.queue.OutQueue.take.Goals as goal

pub returns-in-Some-clause-front : goal.returns-in-Some-clause-front
returns-in-Some-clause-front c =
    let close = map Close (option_to_list c.self.inside.close) in
    sym (ap (λ texts. slice_get (map Text texts ++ close) 0) c.in-Some.ensures.items)
    ∙ ap (λ q. slice_get (waiting q) 0) c.self.view_is

pub returns-in-Some-clause-rest : goal.returns-in-Some-clause-rest
returns-in-Some-clause-rest c =
    let q = c.self.inside in
    sym (ap (λ texts. taken (record { texts = texts; limit = q.limit; closed = q.closed; close = q.close }))
    c.in-Some.ensures.items)
    ∙ ap taken c.self.view_is

pub returns-in-Some-clause-order : goal.returns-in-Some-clause-order
returns-in-Some-clause-order c =
    let close = map Close (option_to_list c.self.inside.close) in
    sym (ap (λ texts. drop 1 (map Text texts ++ close)) c.in-Some.ensures.items)
    ∙ ap (λ q. drop 1 (waiting q)) c.self.view_is
