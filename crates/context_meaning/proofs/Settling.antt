-- What waits in front is settled: each thing that is handled leaves less of twice the fuel and what waits.
use Rattle.std.proofs.Common.{◌≡◌, ◌+◌, ◌*◌, ◌<◌, ◌≤◌, ◌∷◌, ◌++◌, if◌then◌else◌, ◌-◌, ◌⊎◌}
use Rattle.context_meaning.proofs.Common.{ℕ, zero, suc, List, [], length, Bool, true, false, inl, inr, ⊎_elim, refl, sym, ap, ◌∙◌, arith, Program, Waiting, Context, row_in_front, unless_spent, with_front, drained, first_handled, front_handled, front_weight, marks_of, met, settled, weight_of}
use Rattle.context_meaning.specs.declared.context.Waiting.TheVariants as waiting
use Rattle.context_meaning.proofs.Falling.{Falls, met_falls, weight_append}

-- twice the fuel, and what waits in front
abbrev pub load_of : Context → ℕ
load_of c = 2 * c.fuel + front_weight c.front

-- the mark of a thing weighs less than the thing
marks_weigh : (w : Waiting) → front_weight (marks_of w) < weight_of w
marks_weigh (waiting.Event e) = omega arith
marks_weigh (waiting.Completed e) = omega arith

-- what a thing left, put in front with its mark
fewer : (w : Waiting) (ws : List Waiting) (c d : Context) → c.row ≡ [] → Falls (with_front ws c) d → load_of (row_in_front (marks_of w) d) < 2 * c.fuel + front_weight (w ∷ ws)
fewer w ws c d empty falls =
    let marks = marks_weigh w in
    let joined = weight_append (d.row ++ marks_of w) d.front in
    let first = weight_append d.row (marks_of w) in
    let same = ap front_weight falls.front in
    let none = ap front_weight empty in
    let load = falls.load in
    omega (arith, marks, joined, first, same, none, load)

module _ (program : Program) where
  -- the first of those that wait, where the row is empty
  pub front_falls : (w : Waiting) (ws : List Waiting) (c : Context) → c.row ≡ [] → load_of (front_handled program (w ∷ ws) c) < 2 * c.fuel + front_weight (w ∷ ws)
  front_falls w ws c empty = fewer w ws c (met program w (with_front ws c)) empty (met_falls program w (with_front ws c))

  -- the first of some
  some_falls : (ws : List Waiting) (c : Context) → c.row ≡ [] → 0 < length ws → load_of (front_handled program ws c) < 2 * c.fuel + front_weight ws
  some_falls [] c empty h = absurd (omega (arith, h))
  some_falls (w ∷ ws) c empty h = front_falls w ws c empty

  -- the first in front
  pub first_falls : (c : Context) → c.row ≡ [] → 0 < length c.front → load_of (first_handled program c) < load_of c
  first_falls c empty h = some_falls c.front c empty h

  -- the row is empty behind the first of these
  front_row : (ws : List Waiting) (c : Context) → c.row ≡ [] → (front_handled program ws c).row ≡ []
  front_row [] c empty = empty
  front_row (w ∷ ws) c empty = refl

  -- the row is empty behind it
  pub first_row : (c : Context) → c.row ≡ [] → (first_handled program c).row ≡ []
  first_row c empty = front_row c.front c empty

  -- ---- nothing more to do

  -- what leaves a context leaves it either way
  unless_same : (b : Bool) (c d : Context) → (b ≡ false → d ≡ c) → (if b then c else d) ≡ c
  unless_same true c d h = refl
  unless_same false c d h = h refl

  -- in a context that is spent
  pub drained_spent : (n : ℕ) (c : Context) → c.spent ≡ true → drained program n c ≡ c
  drained_spent zero c is = refl
  drained_spent (suc n) c is = ap (drained program n) (ap (λ b. if b then c else first_handled program c) is) ∙ drained_spent n c is

  -- of none there is no first
  none_first : (ws : List Waiting) (c : Context) → ws ≡ [] → front_handled program ws c ≡ c
  none_first [] c is = refl
  none_first (w ∷ ws) c is = cc

  -- where nothing waits
  pub drained_empty : (n : ℕ) (c : Context) → c.front ≡ [] → drained program n c ≡ c
  drained_empty zero c is = refl
  drained_empty (suc n) c is = ap (drained program n) (unless_same c.spent c (first_handled program c) (λ _. none_first c.front c is)) ∙ drained_empty n c is

  -- ---- enough turns

  -- nothing waits, or something
  front_cases : (ws : List Waiting) → (ws ≡ []) ⊎ (0 < length ws)
  front_cases [] = inl refl
  front_cases (w ∷ ws) = inr (omega arith)

  -- one turn more changes nothing
  abbrev Enough : ℕ → Context → Type 0
  Enough n c = drained program (suc n) c ≡ drained program n c

  -- where something waits in a context that may be spent
  next_enough : (n : ℕ) (c : Context) (b : Bool) → c.spent ≡ b → c.row ≡ [] → load_of c ≤ suc n → 0 < length c.front → ((d : Context) → d.row ≡ [] → load_of d ≤ n → Enough n d) → Enough (suc n) c
  next_enough n c true is empty h some again = drained_spent (suc (suc n)) c is ∙ sym (drained_spent (suc n) c is)
  next_enough n c false is empty h some again =
      let first = first_handled program c in
      let step : unless_spent (first_handled program) c ≡ first = ap (λ b. if b then c else first_handled program c) is in
      let falls = first_falls c empty some in
      ap (drained program (suc n)) step ∙ again first (first_row c empty) (omega (arith, falls, h)) ∙ sym (ap (drained program n) step)

  -- as many turns as twice the fuel and what waits weigh are enough
  enough : (n : ℕ) (c : Context) → c.row ≡ [] → load_of c ≤ n → Enough n c
  enough zero c empty h = ⊎_elim (λ none. drained_empty 1 c none) (λ some. let falls = first_falls c empty some in absurd (omega (arith, falls, h))) (front_cases c.front)
  enough (suc n) c empty h = ⊎_elim (λ none. drained_empty (suc (suc n)) c none ∙ sym (drained_empty (suc n) c none)) (λ some. next_enough n c c.spent refl empty h some (enough n)) (front_cases c.front)

  -- so are more
  more_enough : (k n : ℕ) (c : Context) → c.row ≡ [] → load_of c ≤ n → drained program (k + n) c ≡ drained program n c
  more_enough zero n c empty h = let same : 0 + n ≡ n = omega arith in ap (λ m. drained program m c) same
  more_enough (suc k) n c empty h =
      let next : suc k + n ≡ suc (k + n) = omega arith in
      ap (λ m. drained program m c) next ∙ enough (k + n) c empty (omega (arith, h)) ∙ more_enough k n c empty h

  -- each number of turns from the bound on settles
  pub drained_settled : (n : ℕ) (c : Context) → c.row ≡ [] → load_of c ≤ n → drained program n c ≡ settled program c
  drained_settled n c empty h =
      let is : n ≡ (n - load_of c) + load_of c = omega (arith, h) in
      ap (λ m. drained program m c) is ∙ more_enough (n - load_of c) (load_of c) c empty (omega arith)

  -- ---- the loop

  -- a context that is spent is settled
  pub settled_spent : (c : Context) → c.spent ≡ true → settled program c ≡ c
  settled_spent c is = drained_spent (load_of c) c is

  -- and one where nothing waits
  pub settled_empty : (c : Context) → c.front ≡ [] → settled program c ≡ c
  settled_empty c is = drained_empty (load_of c) c is

  -- one turn of so many
  turn_settled : (n : ℕ) (c : Context) → load_of c ≡ n → c.row ≡ [] → c.spent ≡ false → 0 < length c.front → drained program n c ≡ settled program (first_handled program c)
  turn_settled zero c is empty live some = let falls = first_falls c empty some in absurd (omega (arith, is, falls))
  turn_settled (suc n) c is empty live some =
      let falls = first_falls c empty some in
      ap (drained program n) (ap (λ b. if b then c else first_handled program c) live) ∙ drained_settled n (first_handled program c) (first_row c empty) (omega (arith, falls, is))

  -- the first in front is handled, and then the rest is settled
  pub settled_step : (c : Context) → c.row ≡ [] → c.spent ≡ false → 0 < length c.front → settled program c ≡ settled program (first_handled program c)
  settled_step c empty live some = turn_settled (load_of c) c refl empty live some
