use Rattle.view_laws.proofs.TakeLemmas as take
use Rattle.view_laws.proofs.base_laws.takes_down.Goals as goal

pub returns : goal.returns
returns c = λ world v lane below back b row made apart ok each h is t taken. take.takes_down world v lane below back b row made apart ok h is t taken
