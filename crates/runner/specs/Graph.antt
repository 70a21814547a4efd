-- What a run promises that is lent file memory too: all that a run promises, and the file of its call graph.
use Rattle.std.specs.Prelude.{Result, Ok, Err, IfOk, ◌≡◌, ◌++◌, ℕ, length, drop}
use Rattle.rules.specs.Syntax.{Bytes}
use Rattle.rules.specs.Graph.{Graph, graph_of}
use Rattle.sheet.specs.Order.{Inputs, not_lent, lent}
use Rattle.memory.specs.Posts.{Written}
use Rattle.callgrind.specs.File.{file_of}
use Rattle.callgrind.specs.Ended.{graph_in, Drawable}
use Rattle.runner.specs.declared.drawing.Drawn.{Drawn}
use Rattle.runner.specs.declared.Done.{Done}
use Rattle.runner.specs.declared.Refused.{Refused}
use Rattle.runner.specs.Verdict.{Verdict, refused, ended, verdict}
use Rattle.runner.specs.Promise.{Answer, Promise}
use Rattle.runner.specs.Ran.{program_of, trace_on}

-- the inputs of such a run
abbrev pub graph_inputs : (sheet arguments input : Bytes) → (loop stack budget : ℕ) → (result work file : Bytes) → Inputs
graph_inputs s a i l k b r w f = record {
  sheet = s;
  arguments = a;
  input = i;
  loop = l;
  stack = k;
  budget = b;
  result_size = length r;
  work_size = length w;
  file = lent (length f);
}

-- the same without file memory
abbrev pub plain : Inputs → Inputs
plain i = record {
  sheet = i.sheet;
  arguments = i.arguments;
  input = i.input;
  loop = i.loop;
  stack = i.stack;
  budget = i.budget;
  result_size = i.result_size;
  work_size = i.work_size;
  file = not_lent;
}

-- the graph of the rules' run, and its file
abbrev pub graph_on : Inputs → Graph
graph_on i = graph_of (program_of i).functions (trace_on i)

abbrev pub file_on : Inputs → Bytes
file_on i = file_of (graph_on i)

-- the file at the front, the rest unchanged; nothing after a refusal
abbrev pub file_after : Verdict → (file : Bytes) → Bytes → Bytes
file_after (refused number place) file f = f
file_after (ended sheet) file f = file ++ drop (length file) f

abbrev pub size_after : Verdict → (file : Bytes) → ℕ
size_after (refused number place) file = 0
size_after (ended sheet) file = length file

-- what such a run answers as a run, and how long its file is: 0 where there is none
abbrev pub answer_of : Result Drawn Refused → Answer
answer_of (Ok d) = Ok d.sheet
answer_of (Err why) = Err why

abbrev pub file_size : Result Drawn Refused → ℕ
file_size (Ok d) = d.file
file_size (Err why) = 0

pub record GraphPromise (i : Inputs) (r w f r' w' f' : Bytes) (d : Result Drawn Refused) : Type 0 where
  pub promise : Promise i r w r' w' (answer_of d)
  pub length : file_size d ≡ size_after (verdict i) (file_on i)
  pub file : f' ≡ file_after (verdict i) (file_on i) f

-- ITS PARTS ---------------------------------------------------------------------------------------------------------

-- after an end everything is there that a file is written from
abbrev pub CanDraw : (s w f : Bytes) → Result Done Refused → Type 0
CanDraw s w f a = IfOk a (λ d. Drawable s w f d.functions)

-- it was written; after a refusal nothing was
abbrev pub Drew : (s w : Bytes) → Result Done Refused → (f f' : Bytes) → Result Drawn Refused → Type 0
Drew s w (Ok d) f f' r = (answer_of r ≡ Ok d.length) × Written 0 (file_of (graph_in s w d.functions)) f f' (file_size r)
Drew s w (Err why) f f' r = (f' ≡ f) × (r ≡ Err why)
