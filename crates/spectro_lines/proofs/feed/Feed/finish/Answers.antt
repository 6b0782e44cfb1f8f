use Rattle.std.proofs.lemmas.Result.{IfOk-weaker, IfErr-weaker}
use Rattle.spectro_lines.proofs.feed.Feed.finish.Goals as goal

pub returns-clause-ok : goal.returns-clause-ok
returns-clause-ok g c = IfOk-weaker c.answer.result _ _ (λ value told taken has. told taken (c.in_ok-read_last_line.ensures.last taken has)) c.answer.ensures.ok

pub returns-clause-refused : goal.returns-clause-refused
returns-clause-refused g c =
    IfErr-weaker c.answer.result _ _ (λ error told taken has. told taken (c.in_ok-read_last_line.ensures.last taken has)) c.answer.ensures.refused
