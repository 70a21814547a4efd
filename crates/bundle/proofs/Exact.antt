-- What is read as a bundle is the bytes of its contents, and contents that fit are written as bytes.
use mathlib.Core.Path.{◌≡◌, refl, sym, ap, ◌∙◌, subst}
use mathlib.Core.Bool.{Bool, true, false, cond}
use mathlib.Core.List.{List, [], ◌∷◌, ◌++◌, append_assoc}
use Prim.Native.Nat.{ℕ, ◌+◌, ◌<◌, ◌≤◌}
use native.Mathlib.Omega.{arith}
use lib.ListN.{length, take, drop, length-drop, take-append-drop, drop_of_length-le}
use lib.Seq.{drop-drop, length-take-le}
use Rattle.rules.specs.Syntax.{Bytes}
use Rattle.rules.specs.Lists.{Every}
use Rattle.rules.specs.Numbers.{two_bytes, four_bytes}
use Rattle.reader.proofs.Whole.{stands-kind, stands-inside}
use Rattle.sheet.specs.Format.{number}
use Rattle.sheet.specs.Table.{words}
use Rattle.sheet.specs.WellFormed.{Item, write_item, write, IsBytes}
use Rattle.bundle.specs.Contents.{Contents, wrong, holds, bundled, is_bundle, contents, behind, stands, payload, sheet_at, arguments_at, input_at, end_at}
use Rattle.bundle.specs.Encoding.{limits_bytes, records_of, bundle_bytes}
use Rattle.bundle.specs.Claims.{Fits}
use Rattle.bundle.proofs.Judging.{Good, good}
use Rattle.bundle.proofs.Written.{item-length}
use Rattle.bundle.proofs.Bytewise.{bytes-append, bytes-none, bytes-words, bytes_four, bytes-payload, number_small, wide-small, four_written, words-at}

-- ONE RECORD

abbrev item_at : Bytes → (kind at : ℕ) → Item
item_at b kind at = record { kind = kind; payload = payload b at }

module _ (b : Bytes) (p : IsBytes b) (kind at : ℕ) (s : stands b kind at ≡ true) where
  room : at + 4 + number b at ≤ length b
  room = stands-inside b at kind s

  kind-is : number b (at + 2) ≡ kind
  kind-is = stands-kind b at kind s

  size_is : length (payload b at) ≡ number b at
  size_is = let r = room in length-take-le (number b at) (drop (at + 4) b) (omega (arith, length-drop (at + 4) b))

  -- its header
  header : take 4 (drop at b) ≡ words (length (payload b at) ∷ kind ∷ [])
  header =
      let r = room in
      words-at b 2 at p (omega arith) ∙ (λ j. words (sym size_is j ∷ kind-is j ∷ []))

  pub record_is : drop at b ≡ write_item (item_at b kind at) ++ drop (behind b at) b
  unfolding write_item words
  record_is =
      sym (take-append-drop 4 (drop at b))
      ∙ (λ j. header j ++ drop-drop 4 at b j)
      ∙ ap (λ (l : Bytes). words (length (payload b at) ∷ kind ∷ []) ++ l) (sym (take-append-drop (number b at) (drop (at + 4) b)))
      ∙ ap (λ (l : Bytes). words (length (payload b at) ∷ kind ∷ []) ++ (payload b at ++ l)) (drop-drop (number b at) (at + 4) b)
      ∙ sym (append_assoc (words (length (payload b at) ∷ kind ∷ [])) (payload b at) (drop (at + 4 + number b at) b))

-- THE BUNDLE

module _ (b : Bytes) (p : IsBytes b) (g : Good b) where
  limits-are : payload b 0 ≡ limits_bytes (contents b)
  unfolding contents words
  limits-are =
      ap (λ (n : ℕ). take n (drop 4 b)) g.ten ∙ words-at b 5 4 p (omega (arith, room b p 80 0 g.limits, g.ten))
      ∙ (λ j. four_written b 4 p j ++ two_bytes (number b 8) ++ four_written b 10 p j)

  pub bytes-are : b ≡ bundle_bytes (contents b)
  unfolding bundle_bytes write contents
  bytes-are =
      let n : drop (end_at b) b ≡ [] = drop_of_length-le b {i = end_at b} (omega (arith, g.end)) in
      record_is b p 80 0 g.limits
      ∙ (λ j. write_item (record { kind = 80; payload = limits-are j }) ++ record_is b p 81 (sheet_at b) g.sheet j)
      ∙ ap (λ (l : Bytes). write_item (record { kind = 80; payload = limits_bytes (contents b) }) ++ (write_item (item_at b 81 (sheet_at b)) ++ l))
      (record_is b p 82 (arguments_at b) g.arguments
      ∙ ap (λ (l : Bytes). write_item (item_at b 82 (arguments_at b)) ++ l)
      (record_is b p 83 (input_at b) g.input ∙ ap (λ (l : Bytes). write_item (item_at b 83 (input_at b)) ++ l) n))

  fits : Fits (contents b)
  unfolding contents
  fits = record {
    loop = wide-small b 4 p;
    stack = number_small b 8 p;
    budget = wide-small b 10 p;
    sheet = bytes-payload b (sheet_at b) p;
    arguments = bytes-payload b (arguments_at b) p;
    input = bytes-payload b (input_at b) p;
    whole = omega (arith, g.size, ap length bytes-are);
  }

pub only_bundles : (b : Bytes) (c : Contents) → IsBytes b → bundled b ≡ holds c → Fits c × (b ≡ bundle_bytes c)
unfolding bundled
only_bundles b c p e = go (is_bundle b) refl e
  where
    go : (t : Bool) → is_bundle b ≡ t → cond t (holds (contents b)) wrong ≡ holds c → Fits c × (b ≡ bundle_bytes c)
    go true i q =
        let g = good b i in
        let k : contents b ≡ c = cc in (subst Fits k (fits b p g), bytes-are b p g ∙ ap bundle_bytes k)
    go false i q = absurd (let z : ◌≡◌ {A = ℕ} 0 1 = cc in omega arith)

-- BYTES

-- a record whose length, kind and payload can be written
abbrev Writable : Item → Type 0
Writable c = (length c.payload < 65536) × (c.kind < 65536) × IsBytes c.payload

write_bytes : (cs : List Item) → Every Writable cs → IsBytes (write cs)
unfolding write write_item words
write_bytes [] h = bytes-none
write_bytes (c ∷ cs) h =
    bytes-append (words (length c.payload ∷ c.kind ∷ []) ++ c.payload) (write cs)
    (bytes-append (words (length c.payload ∷ c.kind ∷ [])) c.payload (bytes-words (length c.payload ∷ c.kind ∷ []) (h.0.0, (h.0.1, tt))) h.0.2)
    (write_bytes cs h.1)

lengths : (c : Contents) → length (bundle_bytes c) ≡ 26 + length c.sheet + length c.arguments + length c.input
unfolding bundle_bytes write words
lengths c =
    omega (
      arith,
      item-length (record { kind = 80; payload = limits_bytes c }) (write ((record { kind = 81; payload = c.sheet }) ∷ (record { kind = 82; payload = c.arguments }) ∷ (record { kind = 83; payload = c.input }) ∷ [])),
      item-length (record { kind = 81; payload = c.sheet }) (write ((record { kind = 82; payload = c.arguments }) ∷ (record { kind = 83; payload = c.input }) ∷ [])),
      item-length (record { kind = 82; payload = c.arguments }) (write ((record { kind = 83; payload = c.input }) ∷ [])),
      item-length (record { kind = 83; payload = c.input }) [],
    )

limits-bytes : (c : Contents) → Fits c → IsBytes (limits_bytes c)
unfolding words
limits-bytes c f =
    bytes-append (four_bytes c.loop) (two_bytes c.stack ++ four_bytes c.budget) (bytes_four c.loop f.loop)
    (bytes-append (two_bytes c.stack) (four_bytes c.budget) (bytes-words (c.stack ∷ []) (f.stack, tt)) (bytes_four c.budget f.budget))

pub fitting_bytes : (c : Contents) → Fits c → IsBytes (bundle_bytes c)
unfolding bundle_bytes words
fitting_bytes c f =
    let n = lengths c in
    let w = f.whole in
    write_bytes (records_of c)
    ((omega arith, omega arith, limits-bytes c f), ((omega arith, omega arith, f.sheet), ((omega arith, omega arith, f.arguments), ((omega arith, omega arith, f.input), tt))))
