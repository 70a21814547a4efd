-- What is proved of the exported functions' promises. The proofs are put together in proofs/Theorems.antt.
use Rattle.std.specs.Prelude.{◌≡◌, ℕ, ◌/◌, ◌%◌, ◌<◌, ◌≤◌, length}
use Rattle.rules.specs.Syntax.{Bytes}
use Rattle.rules.specs.Ruling.{Sheet}
use Rattle.sheet.specs.Order.{Inputs, not_lent}
use Rattle.runner.specs.Verdict.{refused, ended, verdict}
use Rattle.result.specs.Encoding.{sheet_bytes}
use Rattle.runner.specs.Promise.{tells}
use Rattle.runner.specs.Graph.{file_on}
use Rattle.gateway.specs.Exported.{coded, Exported, graph_coded, GraphExported, Refusable}

-- ONE RESULT --------------------------------------------------------------------------------------------------------

-- Equal inputs admit one number and one content of both memories.
abbrev pub OneNumber : Type 0
OneNumber =
    (i : Inputs) (r w r₁ w₁ r₂ w₂ : Bytes) (n₁ n₂ : ℕ) → Exported i r w r₁ w₁ n₁ → Exported i r w r₂ w₂ n₂
    → (n₁ ≡ n₂) × (r₁ ≡ r₂) × (w₁ ≡ w₂)

abbrev pub OneGraphNumber : Type 0
OneGraphNumber =
    (i : Inputs) (r w f r₁ w₁ f₁ r₂ w₂ f₂ : Bytes) (n₁ n₂ : ℕ) → GraphExported i r w f r₁ w₁ f₁ n₁ → GraphExported i r w f r₂ w₂ f₂ n₂
    → (n₁ ≡ n₂) × (r₁ ≡ r₂) × (w₁ ≡ w₂) × (f₁ ≡ f₂)

-- READING THE NUMBER ------------------------------------------------------------------------------------------------

-- Refusal n at place p is read off the two halves of the number returned, of which the upper one is not 0.
pub record RefusalRead (n p number : ℕ) : Type 0 where
  pub range : Refusable n p
  pub large : 4294967296 ≤ number
  pub upper : number / 4294967296 ≡ n
  pub lower : number % 4294967296 ≡ p

abbrev pub EveryRefusalRead : Type 0
EveryRefusalRead = (i : Inputs) (n p : ℕ) → verdict i ≡ refused n p → RefusalRead n p (coded (verdict i))

-- Without file memory, as `klumavec_run` is, a run is refused by 1 to 10 alone.
abbrev pub PlainUpToTen : Type 0
PlainUpToTen = (i : Inputs) (n p : ℕ) → i.file ≡ not_lent → verdict i ≡ refused n p → n ≤ 10

-- An ended run's number is below every refusal's.
abbrev pub EveryEndSmall : Type 0
EveryEndSmall = (i : Inputs) (s : Sheet) → verdict i ≡ ended s → coded (verdict i) ≤ 3744

-- So the number fixes what is said: refused with which number and place, or ended with which length.
abbrev pub NumberFixesAnswer : Type 0
NumberFixesAnswer = (i j : Inputs) → coded (verdict i) ≡ coded (verdict j) → tells (verdict i) ≡ tells (verdict j)

-- With the call graph: a refusal is read as before,
abbrev pub EveryGraphRefusalRead : Type 0
EveryGraphRefusalRead = (i : Inputs) (n p : ℕ) → verdict i ≡ refused n p → RefusalRead n p (graph_coded i)

-- and off an end's number, which is below every refusal's, both lengths.
pub record LengthsRead (sheet file number : ℕ) : Type 0 where
  pub small : number < 4294967296
  pub upper : number / 65536 ≡ file
  pub lower : number % 65536 ≡ sheet

abbrev pub EveryGraphEndRead : Type 0
EveryGraphEndRead = (i : Inputs) (s : Sheet) → verdict i ≡ ended s → LengthsRead (length (sheet_bytes s)) (length (file_on i)) (graph_coded i)
