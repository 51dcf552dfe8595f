-- The variables that a run passes.
use Rattle.std.proofs.Common.{◌≡◌, ◌∷◌, ◌++◌}
use Rattle.walk_rules.proofs.Common.{List, [], refl, sym, subst, ⊎_elim, arith, Contains, Frame, Did, Outcome, Went, Ended, M, then_do, Halt, State, standing, did_of, outcome_of}
use Rattle.std.proofs.lemmas.List.Elements.{Contains-append_left, Contains-append_right, Contains-append_cases, Contains-push_cases}
use Rattle.body_meaning.specs.Runs.{and_then, behind}
use Rattle.std.specs.Prelude.{Result, Ok, Err}

pub standing_append : (frame : Frame) (xs ys : List Frame) → standing frame (xs ++ ys) ≡ standing (standing frame xs) ys
standing_append frame [] ys = refl
standing_append frame (x ∷ xs) ys = standing_append x xs ys

pub contains_first : (frame : Frame) (xs : List Frame) → Contains (frame ∷ xs) frame
contains_first frame xs = (0, omega arith, refl)

pub contains_standing : (frame : Frame) (xs : List Frame) → Contains (frame ∷ xs) (standing frame xs)
contains_standing frame [] = contains_first frame []
contains_standing frame (x ∷ xs) = Contains-append_right (frame ∷ []) (x ∷ xs) (standing x xs) (contains_standing x xs)

contains_none : {X : Type 0} {Y : Type 0} (x : X) → Contains [] x → Y
contains_none x h = absurd (omega (arith, h.1))

contains_one : {X : Type 0} (x y : X) → Contains (x ∷ []) y → x ≡ y
contains_one x y h = ⊎_elim (contains_none y) (λ e. e) (Contains-push_cases [] x y h)

-- what is passed at first is passed in the whole
pub contains_before : (frame : Frame) (xs ys : List Frame) (g : Frame) → Contains (frame ∷ xs) g → Contains (frame ∷ (xs ++ ys)) g
contains_before frame xs ys g h = Contains-append_left (frame ∷ xs) ys g h

-- what is passed behind others is passed in the whole
pub contains_behind : (frame : Frame) (xs ys : List Frame) (g : Frame) → Contains (standing frame xs ∷ ys) g → Contains (frame ∷ (xs ++ ys)) g
contains_behind frame xs ys g h = ⊎_elim
    (λ one. subst (λ g. Contains (frame ∷ (xs ++ ys)) g) (contains_one (standing frame xs) g one) (contains_before frame xs ys (standing frame xs) (contains_standing frame xs)))
    (λ other. Contains-append_right (frame ∷ xs) ys g other)
    (Contains-append_cases (standing frame xs ∷ []) ys g h)

-- ---- what a run did

pub did_behind : {A : Type 0} (before : Did) (o : Outcome A) → did_of (behind before o) ≡ and_then before (did_of o)
did_behind before (Went did x s) = refl
did_behind before (Ended did why s) = refl

pub did_outcome : {A : Type 0} (r : Result A Halt) (did : Did) (s : State) → did_of (outcome_of r did s) ≡ did
did_outcome (Ok x) did s = refl
did_outcome (Err why) did s = refl

-- what a run passes at first is passed where it goes on
pub contains_then : {A B : Type 0} (o : Outcome A) (go : A → M B) (frame g : Frame) → Contains (frame ∷ (did_of o).frames) g → Contains (frame ∷ (did_of (then_do o go)).frames) g
contains_then (Went did x s) go frame g h = subst (λ (d : Did). Contains (frame ∷ d.frames) g) (sym (did_behind did (go x s))) (contains_before frame did.frames (did_of (go x s)).frames g h)
contains_then (Ended did why s) go frame g h = h
