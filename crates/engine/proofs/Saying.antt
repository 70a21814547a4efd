-- What the number of a string or a list says: the end that it was made of, and the one that it opens to.
-- Assumes nothing.
use Prim.Native.Nat.{ℕ, zero, suc, ◌≤◌}
use native.Mathlib.Omega.{arith}
use mathlib.Core.Path.{◌≡◌, refl, sym, ap, ◌∙◌}
use mathlib.Core.Bool.{Bool}
use Rattle.rules.specs.declared.Refusal.{Refusal}
use Rattle.rules.specs.declared.Refusal.TheVariants.{BudgetUsedUp, LongString, LongList, LongStream, ManyHolds}
use Rattle.rules.specs.State.{number}
use Rattle.rules.specs.declared.Halt.{Halt}
use Rattle.std.specs.declared.result.Result.{Result}
use Rattle.memory.specs.declared.Course.{Course}
use Rattle.words.specs.declared.PaceNumber.{PaceNumber}
use Rattle.words.specs.declared.FeedNumber.{FeedNumber}
use Rattle.words.specs.Words.{Pace, Feed, End, pace_of, feed_of, end_of, end_with, course, course_of}
use Rattle.engine.specs.declared.Made.{Made}
use Rattle.engine.specs.Moves.{refed, resumed, back}
use Rattle.engine.specs.Values.{Text}
use Rattle.engine.specs.Ends.{texted, refusal_of, leaving, said, worded, Says}

-- REFUSALS

refusal_of_number : (why : Refusal) → refusal_of (number why) ≡ why
refusal_of_number BudgetUsedUp = refl
refusal_of_number LongString = refl
refusal_of_number LongList = refl
refusal_of_number LongStream = refl
refusal_of_number ManyHolds = refl

said-refused : (f : Feed) (e : End) (k : ℕ) → 2 ≤ k → said f e k ≡ Text.Refused (refusal_of e.size) e.rest
said-refused f e zero h = absurd (omega arith)
said-refused f e (suc zero) h = absurd (omega arith)
said-refused f e (suc (suc k)) h = refl

-- MADE

says : (e : ℕ) {k n r : ℕ} {b : Bool} {p : Pace} → end_of e ≡ end_with k b n r p → (f : Feed) → said f (end_with k b n r p) k ≡ worded f e
unfolding worded
says e told f = rw told refl

pub value_says : (e : ℕ) (p : PaceNumber) {n r : ℕ} {b : Bool} → end_of e ≡ end_with 0 b n r (pace_of p) → Says e (λ f. Text.Value n b (leaving f (pace_of p) r))
value_says e p told f = says e told f

pub error_says : (e : ℕ) (p : PaceNumber) {n r : ℕ} {b : Bool} → end_of e ≡ end_with 1 b n r (pace_of p) → Says e (λ f. Text.Error (leaving f (pace_of p) r))
error_says e p told f = says e told f

pub refused_says : (e : ℕ) {n r : ℕ} {b : Bool} {p : Pace} (why : Refusal) → n ≡ number why → end_of e ≡ end_with 2 b n r p → Says e (λ f. Text.Refused why r)
refused_says e {r = r} why h told f = ap (λ (w : Refusal). Text.Refused w r) (sym (ap refusal_of h ∙ refusal_of_number why)) ∙ says e told f

-- OPENED, for a string or a list that began with this feed

module _ (e : ℕ) (feed : FeedNumber) where
  pub opens_value : (p : PaceNumber) (q : FeedNumber) {n r : ℕ} {b : Bool} → (end_of e).kind ≡ 0 → n ≡ (end_of e).size → b ≡ (end_of e).flag → pace_of p ≡ (end_of e).pace
      → feed_of q ≡ refed r (feed_of feed) → r ≡ (end_of e).rest → Text.Value n b (course_of p q) ≡ worded (feed_of feed) e
  unfolding worded
  opens_value p q k a b c fed r = rw (k, a, b, c, fed, r) refl

  pub opens_error : (p : PaceNumber) (q : FeedNumber) {r : ℕ} → (end_of e).kind ≡ 1 → pace_of p ≡ (end_of e).pace → feed_of q ≡ refed r (feed_of feed) → r ≡ (end_of e).rest
      → Text.Error (course_of p q) ≡ worded (feed_of feed) e
  unfolding worded
  opens_error p q k c fed r = rw (k, c, fed, r) refl

  pub opens_refused : {r : ℕ} {why : Refusal} → 2 ≤ (end_of e).kind → why ≡ refusal_of (end_of e).size → r ≡ (end_of e).rest → Text.Refused why r ≡ worded (feed_of feed) e
  unfolding worded
  opens_refused k w r = rw (w, r) (sym (said-refused (feed_of feed) (end_of e) (end_of e).kind k))

-- a value that leaves the input as it was
pub says_value : (e : ℕ) (feed : FeedNumber) (p : PaceNumber) {n r : ℕ} {b : Bool} → Says e (λ f. Text.Value n b (leaving f (pace_of p) r)) → r ≡ (feed_of feed).rest
    → Text.Value n b (course_of p feed) ≡ worded (feed_of feed) e
says_value e feed p {n} {r} {b} told h = ap (λ (x : ℕ). Text.Value n b (course (pace_of p) (refed x (feed_of feed)))) (sym h) ∙ told (feed_of feed)

-- the same of what an embedded command leaves: result and stream from before, and the input where it stood
module _ (e : ℕ) (feed : FeedNumber) (pace p : PaceNumber) (q : FeedNumber) (x : PaceNumber) {y : ℕ} (paced : pace_of x ≡ resumed (pace_of pace) (pace_of p)) (left : y ≡ (feed_of q).rest) (from : (feed_of q).from ≡ (feed_of feed).from) where
  back_is : back (course_of pace feed) (course_of p q) ≡ course (pace_of x) (refed y (feed_of feed))
  back_is = rw (paced, left, from) refl

  pub says_back_error : Says e (λ f. Text.Error (leaving f (pace_of x) y)) → Text.Error (back (course_of pace feed) (course_of p q)) ≡ worded (feed_of feed) e
  says_back_error told = ap Text.Error back_is ∙ told (feed_of feed)

  pub says_back_value : {n : ℕ} {b : Bool} → Says e (λ f. Text.Value n b (leaving f (pace_of x) y)) → b ≡ (pace_of p).result
      → Text.Value n (pace_of p).result (back (course_of pace feed) (course_of p q)) ≡ worded (feed_of feed) e
  says_back_value {n} {b} told k = rw (sym k) (ap (λ (c : Course). Text.Value n b c) back_is ∙ told (feed_of feed))

-- READ BY ITS CALLER

pub reads : (e : ℕ) (feed : FeedNumber) {s t : Result Made Halt} → texted s ≡ worded (feed_of feed) e → s ≡ t → worded (feed_of feed) e ≡ texted t
reads e feed opens h = sym opens ∙ ap texted h

-- a value leaves of the feed before it all but the rest of the input
said-leaves : (f : Feed) (e : End) (k : ℕ) {n : ℕ} {b : Bool} {c : Course} → said f e k ≡ Text.Value n b c → (f.arguments ≡ c.arguments) × (f.count ≡ c.count) × (f.from ≡ c.from)
said-leaves f e zero {c = c} h = let z : leaving f e.pace e.rest ≡ c = cc in (ap (λ (d : Course). d.arguments) z, ap (λ (d : Course). d.count) z, ap (λ (d : Course). d.from) z)
said-leaves f e (suc zero) h = let z : ◌≡◌ {A = ℕ} 0 1 = cc in absurd (omega arith)
said-leaves f e (suc (suc k)) h = let z : ◌≡◌ {A = ℕ} 0 1 = cc in absurd (omega arith)

-- that rest does not matter for what is said behind it
said-like : (f h : Feed) (e : End) (k : ℕ) → (f.arguments ≡ h.arguments) × (f.count ≡ h.count) × (f.from ≡ h.from) → said h e k ≡ said f e k
said-like f h e zero z = rw (z.0, z.1, z.2) refl
said-like f h e (suc zero) z = rw (z.0, z.1, z.2) refl
said-like f h e (suc (suc k)) z = refl

pub worded_after : (d e : ℕ) (feed q : FeedNumber) {n : ℕ} {b : Bool} {p : Pace} → worded (feed_of feed) d ≡ Text.Value n b (course p (feed_of q))
    → worded (feed_of q) e ≡ worded (feed_of feed) e
unfolding worded
worded_after d e feed q h = said-like (feed_of feed) (feed_of q) (end_of e) (end_of e).kind (said-leaves (feed_of feed) (end_of d) (end_of d).kind h)
