use Rattle.std.proofs.Common.{[]}
use Rattle.std.proofs.lemmas.Result.{IfOk-weaker, IfErr-weaker}
use Rattle.spectro_lines.proofs.reader.read.Goals as goal

pub returns-clause-ok : goal.returns-clause-ok
returns-clause-ok g c = IfOk-weaker c.finish.result _ _ (λ value told. told c.args.text.now (c.in_ok-feed.ensures.ok [] c.new-feed.ensures)) c.finish.ensures.ok

pub returns-clause-refused : goal.returns-clause-refused
returns-clause-refused g c =
    IfErr-weaker c.finish.result _ _ (λ error told. told c.args.text.now (c.in_ok-feed.ensures.ok [] c.new-feed.ensures)) c.finish.ensures.refused
