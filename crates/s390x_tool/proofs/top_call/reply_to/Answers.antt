use Rattle.std.proofs.Common.{refl, subst}
use Rattle.s390x_tool.specs.Words.{IsForm, texts}
use Rattle.s390x_tool.proofs.Generating.{reply_to_generate}
use Rattle.s390x_tool.proofs.top_call.reply_to.Goals as goal

pub returns-in-Generate : goal.returns-in-Generate
returns-in-Generate g c = reply_to_generate _ _ _ _ _ (subst (λ k. IsForm (texts c.args.words.now) k) c.in-Generate.is c.in-Some.ensures.form) refl refl c.generate.ensures
