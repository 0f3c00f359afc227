use Rattle.view_steps.proofs.WindowLemmas.{resulting-lies}
use Rattle.view_steps.proofs.laws.resulting_window.Goals as goal

pub returns : goal.returns
returns c = resulting-lies
