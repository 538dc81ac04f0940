use Rattle.std.proofs.Common.{arith, None}
use Rattle.std.proofs.lemmas.Str.Pattern.{strip_prefix_char}
use Rattle.op_model.proofs.texts.Entering.{lf_feed}
use Rattle.op_model.proofs.endings.without_feed.Goals as goal

pub returns-in-None-clause-lines : goal.returns-in-None-clause-lines
returns-in-None-clause-lines c = lf_feed c.args.text.now (strip_prefix_char 10 c.args.text.now None c.in-None.ensures.cases (omega arith))
