use Rattle.std.proofs.Common.{[]}
use Rattle.std.proofs.lemmas.Result.{IfOk-weaker, IfErr-weaker}
use Rattle.spectro_aut.proofs.reader.read.Goals as goal

pub returns-clause-ok : goal.returns-clause-ok
returns-clause-ok c =
    IfOk-weaker c.finish.result _ _ (λ lts told. told c.args.bytes.now (c.in_ok-feed-2.ensures.ok [] c.in_ok-feed.ensures)) c.finish.ensures.ok

pub returns-clause-refused : goal.returns-clause-refused
returns-clause-refused c =
    IfErr-weaker c.finish.result _ _ (λ error told. told c.args.bytes.now (c.in_ok-feed-2.ensures.ok [] c.in_ok-feed.ensures)) c.finish.ensures.refused
