-- A run keeps the names of its variables: they are the program's, slot by slot.
use mathlib.Core.Path.{◌≡◌, refl, ap, ◌∙◌, subst}
use mathlib.Core.List.{List, [], ◌∷◌, map}
use lib.Seq.{map-set_same}
use Rattle.rules.specs.declared.Behaviour.{Behaviour}
use Rattle.rules.specs.Syntax.{Bytes, Program}
use Rattle.rules.specs.State.{Limits, Variable, State, Outcome, refused, ended, inside, as_call, variables}
use Rattle.rules.specs.Trace.{Trace}
use Rattle.rules.specs.Words.{unset_variable}
use Rattle.rules.specs.Refusals.{at_top}
use Rattle.rules.specs.Evaluation.{start, main, run}
use Rattle.rules.specs.Genuine.{from_main}
use Rattle.rules.proofs.Outcomes.{Ends}
use Rattle.rules.proofs.Invariant.{Invariant, Left}
use Rattle.rules.proofs.Pieces.{Anything}
use Rattle.rules.proofs.Soundness.{sound_ins, enters}

abbrev pub name_of : Variable → Bytes
name_of v = v.name

-- of values nothing is known
named : (limits : Limits) (program : Program) → Invariant limits program
named limits program = record {
  String = Anything;
  Fields = Anything;
  Variables = λ vs. map name_of vs ≡ program.slots;
  Stream = Anything;
  text_is = λ at s r. tt;
  name_is = λ g a. tt;
  variable_is = λ x vs h. tt;
  argument_is = λ n a later s h. tt;
  made_is = λ s t. tt;
  no_fields = tt;
  one_more = λ so_far s h k t. tt;
  some_more = λ so_far s h k t. tt;
  first_field = λ s more h. tt;
  other_fields = λ s more h. tt;
  fewer = λ n fields h. tt;
  assign = λ x s vs h k. map-set_same name_of vs x _ (unset_variable []) refl ∙ h;
  mark = λ x vs h. map-set_same name_of vs x _ (unset_variable []) refl ∙ h;
  no_bytes = tt;
  stream_is = λ s t. tt;
}

unset-names : (slots : List Bytes) → map name_of (map unset_variable slots) ≡ slots
unset-names [] = refl
unset-names (n ∷ ns) = ap (λ (l : List Bytes). n ∷ l) (unset-names ns)

module _ (limits : Limits) (program : Program) (argument0 : Bytes) (arguments : List Bytes) (stdin : Bytes) where
  abbrev before : State
  before = start program arguments stdin

  main-names : Left (named limits program) limits.stack Anything (main limits program argument0 before)
  unfolding named
  main-names =
      (sound_ins (named limits program) limits.stack (enters (named limits program) limits.stack) program.main from_main (at_top argument0) tt
      ).from before (record { in_context = (unset-names program.slots, tt); in_input = tt; in_output = tt })

  in_main : (o : Outcome Behaviour) → Left (named limits program) limits.stack Anything o
      → Ends (λ _ s _. map name_of (variables s) ≡ program.slots) (inside 0 o)
  unfolding named
  in_main (refused why place t) k = tt
  in_main (ended a s t) k = k.state.in_context.0

  pub run-names : (b : Behaviour) (s : State) (t : Trace) → run limits program argument0 arguments stdin ≡ ended b s t → map name_of (variables s) ≡ program.slots
  unfolding run as_call
  run-names b s t e = subst (Ends (λ _ s _. map name_of (variables s) ≡ program.slots)) e (in_main (main limits program argument0 before) main-names)
