use native.Mathlib.Omega.{arith}
use Rattle.gateway.proofs.Coding.{graph_refusable, graph_small}
use Rattle.gateway.proofs.klumavec_graph.Goals as goal

pub overflow_mul-result : goal.overflow_mul-result
overflow_mul-result c = let h = graph_small c.graph.ensures c.in-Ok.is in omega (arith, h.0, h.1)

pub overflow_add-result : goal.overflow_add-result
overflow_add-result c = let h = graph_small c.graph.ensures c.in-Ok.is in omega (arith, h.0, h.1)

pub refusal-requires : goal.refusal-requires
refusal-requires c = graph_refusable c.graph.ensures c.in-Err.is
