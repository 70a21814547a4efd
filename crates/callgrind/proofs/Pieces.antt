-- The pieces that the code writes are the lines of the file.
use Prim.Native.Nat.{ℕ, suc, ◌+◌}
use native.Mathlib.Omega.{arith}
use native.Mathlib.Numerals.{add-one}
use mathlib.Core.Path.{◌≡◌, sym, ap, ◌∙◌}
use mathlib.Core.List.{List, [], ◌∷◌, ◌++◌, append_assoc}
use borrow.Author.Tests.{eq-eqb, ne_eqb}
use Rattle.rules.specs.Ascii.{ascii}
use Rattle.rules.specs.Syntax.{Bytes}
use Rattle.rules.specs.Graph.{Figures, Graph, edge_if, edges_from}
use Rattle.text.specs.Decimal.{decimal}
use Rattle.text.specs.declared.page.Page.{Page}
use Rattle.text.specs.Put.{Wrote, Fitted}
use Rattle.text.proofs.Ends.{wrote_none, wrote_then, fitted, fitted_end}
use Rattle.callgrind.specs.File.{function_line, cost_line, callee_line, calls_line, header, main_name, definition, definitions, edges_lines, block_lines, blocks_lines, ending, file_lines, ended, file_of}
use Rattle.callgrind.proofs.Lines.{ended-append}

-- a number between two words
abbrev between : (before : Bytes) → (n : ℕ) → (behind : Bytes) → Bytes
between before n behind = before ++ decimal n ++ behind

-- EDGES

-- the end of a line with what follows it
line-with : (n : ℕ) (behind rest : Bytes) → (decimal n ++ behind) ++ 10 ∷ rest ≡ (decimal n ++ (behind ++ 10 ∷ [])) ++ rest
line-with n behind rest =
    append_assoc (decimal n) behind (10 ∷ rest)
    ∙ ap (λ (s : Bytes). decimal n ++ s) (sym (append_assoc behind (10 ∷ []) rest))
    ∙ sym (append_assoc (decimal n) (behind ++ 10 ∷ []) rest)

edge_lines_lem : (id count cost : ℕ)
    → ended (callee_line id ∷ calls_line count ∷ cost_line cost ∷ [])
    ≡ between (ascii "cfn=(") id (ascii ")\n") ++ between (ascii "calls=") count (ascii " 0\n") ++ between (ascii "0 ") cost (ascii "\n")
unfolding ended
edge_lines_lem id count cost =
    ap (λ (s : Bytes). ascii "cfn=(" ++ s) (line-with id (ascii ")") (ended (calls_line count ∷ cost_line cost ∷ [])))
    ∙ ap (λ (s : Bytes). between (ascii "cfn=(") id (ascii ")\n") ++ (ascii "calls=" ++ s)) (line-with count (ascii " 0") (ended (cost_line cost ∷ [])))
    ∙ sym (append_assoc (between (ascii "cfn=(") id (ascii ")\n")) (between (ascii "calls=") count (ascii " 0\n")) (between (ascii "0 ") cost (ascii "\n")))

module _ (x : Figures) (a b : ℕ) where
  pub edge_none : (p : Page) → x.calls a b ≡ 0 → Fitted 49 (ended (edges_lines (edge_if x a b))) p p
  unfolding edges_lines ended
  edge_none p e = rw (eq-eqb (x.calls a b) 0 e) (fitted (wrote_none p) (omega arith))

  pub edge-some : {count cost : ℕ} {p₀ p₁ p₂ p₃ : Page} → count ≡ x.calls a b → (count ≡ 0 → ⊥) → cost ≡ x.inclusive a b
      → Fitted 17 (between (ascii "cfn=(") (b + 1) (ascii ")\n")) p₀ p₁
      → Fitted 19 (between (ascii "calls=") count (ascii " 0\n")) p₁ p₂
      → Fitted 13 (between (ascii "0 ") cost (ascii "\n")) p₂ p₃
      → Fitted 49 (ended (edges_lines (edge_if x a b))) p₀ p₃
  unfolding edges_lines
  edge-some {count = count} {cost = cost} e h k p q s =
      rw (ne_eqb (x.calls a b) 0 (λ z. h (e ∙ z)), ← e, ← k, edge_lines_lem (suc b) count cost, ← add-one b)
      (fitted (wrote_then (wrote_then p.wrote q.wrote) s.wrote) (omega (arith, fitted_end p, fitted_end q, fitted_end s)))

-- BLOCKS

block_lines_lem : (id cost : ℕ) (ls : List Bytes)
    → ended ([] ∷ function_line id ∷ cost_line cost ∷ ls) ≡ between (ascii "\nfn=(") id (ascii ")\n") ++ between (ascii "0 ") cost (ascii "\n") ++ ended ls
unfolding ended
block_lines_lem id cost ls =
    ap (λ (s : Bytes). ascii "\nfn=(" ++ s) (line-with id (ascii ")") (ended (cost_line cost ∷ ls)))
    ∙ ap (λ (s : Bytes). between (ascii "\nfn=(") id (ascii ")\n") ++ (ascii "0 " ++ s)) (sym (append_assoc (decimal cost) (10 ∷ []) (ended ls)))
    ∙ sym (append_assoc (between (ascii "\nfn=(") id (ascii ")\n")) (between (ascii "0 ") cost (ascii "\n")) (ended ls))

pub block_whole : (x : Figures) (n f id : ℕ) {cost : ℕ} {p₀ p₁ p₂ p₃ : Page} → cost ≡ x.own f
    → Fitted 17 (between (ascii "\nfn=(") id (ascii ")\n")) p₀ p₁
    → Fitted 13 (between (ascii "0 ") cost (ascii "\n")) p₁ p₂
    → Fitted 1568 (ended (edges_lines (edges_from x f 1 n))) p₂ p₃
    → Fitted 1598 (ended (block_lines id (record { own = x.own f; edges = edges_from x f 1 n }))) p₀ p₃
block_whole x n f id {cost = cost} e p q s =
    rw (← e, block_lines_lem id cost (edges_lines (edges_from x f 1 n)))
    (fitted (wrote_then (wrote_then p.wrote q.wrote) s.wrote) (omega (arith, fitted_end p, fitted_end q, fitted_end s)))

-- THE FILE

file-is : (g : Graph)
    → file_of g
    ≡ ended (header g.steps ++ definition 1 main_name ∷ []) ++ ended (definitions 2 g.names) ++ ended (blocks_lines 1 g.blocks)
    ++ between (ascii "\ntotals: ") g.steps (ascii "\n")
unfolding file_of file_lines definitions ended
file-is g =
    ended-append (header g.steps ++ definitions 1 (main_name ∷ g.names) ++ blocks_lines 1 g.blocks) (ending g.steps)
    ∙ ap (λ (s : Bytes). s ++ ended (ending g.steps))
    (ended-append (header g.steps ++ definitions 1 (main_name ∷ g.names)) (blocks_lines 1 g.blocks)
    ∙ ap (λ (s : Bytes). s ++ ended (blocks_lines 1 g.blocks)) (ended-append (header g.steps ++ definition 1 main_name ∷ []) (definitions 2 g.names)))

pub file-whole : (g : Graph) {steps : ℕ} {p₀ p₁ p₂ p₃ p₄ : Page} → steps ≡ g.steps
    → Fitted 128 (ended (header steps ++ definition 1 main_name ∷ [])) p₀ p₁
    → Fitted 2560 (ended (definitions 2 g.names)) p₁ p₂
    → Fitted 52734 (ended (blocks_lines 1 g.blocks)) p₂ p₃
    → Fitted 20 (between (ascii "\ntotals: ") steps (ascii "\n")) p₃ p₄
    → Wrote (file_of g) p₀ p₄
file-whole g e p q s u = rw (file-is g, ← e) (wrote_then (wrote_then (wrote_then p.wrote q.wrote) s.wrote) u.wrote)
