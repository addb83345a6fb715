-- Each kind of answer is one call, whose clauses are read with the variant that is matched.
use Rattle.std.proofs.Common.{◌≡◌, length, rules}
use Rattle.cf_client.proofs.draft.Draft.take_answer.Goals as goal

pub returns-in-Subscribed : goal.returns-in-Subscribed
returns-in-Subscribed c = rw (c.in-Subscribed.is) c.subscribed.ensures

pub returns-in-Failed : goal.returns-in-Failed
returns-in-Failed c = rw (c.in-Failed.is) c.failed.ensures

pub returns-in-Past : goal.returns-in-Past
returns-in-Past c =
    let len : c.len.result ≡ length c.in-Past.publications.items = search rules in
    rw (c.in-Past.is, ← len) c.listed.ensures
