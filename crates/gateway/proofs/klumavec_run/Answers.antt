use Rattle.gateway.proofs.Coding.{refusable}
use Rattle.gateway.proofs.klumavec_run.Goals as goal

pub refusal-requires : goal.refusal-requires
refusal-requires c = refusable c.run.ensures c.in-Err.is
