-- A value with steps behind it keeps the rules, and so does a place that is assigned: what is changed is told to each step
-- before the change.
use Rattle.std.proofs.Common.{◌≡◌, ◌+◌, ◌-◌, ◌&&◌, ◌∷◌}
use Rattle.program_laws.proofs.Common.{ℕ, zero, suc, Bool, true, false, List, [], map, length, Option, Some, None, is_some, refl, sym, ap, subst, ◌∙◌, arith, AllByRecursion, and_from, Spot, Shape, TypedExpr, roll-TypedExpr, TypedSuffix, Sight, Path, goes, end_of, path_of, Judged, Root, StepKind, Walk, Demand, Part, Step, demand_before, walk_start, step_found, postfix_found, SameRoot}
use Rattle.typed_program.specs.declared.expression.TypedNode.TheVariants as made
use Rattle.typed_program.specs.declared.expression.TypedNode.TheOpen as typed
use Rattle.typed_program.specs.Paths.{Root as Begins}
use Rattle.expr_rules.specs.Postfix.{leads, postfix_of, walked_from, postfix_rest}
use Rattle.expr_rules.specs.Then.{through}
use Rattle.program_laws.proofs.Exprs.Sure.{Sure, sure_then, sure_sound}
use Rattle.program_laws.proofs.Lawful.Operands.{PartKept}
use Rattle.program_laws.proofs.Lawful.Paths.{node_pathed, pathed, path_shape}
use Rattle.program_laws.proofs.Lawful.Standing.{Standing, Own, is_near, may_refer, made_stands}
use Rattle.program_laws.proofs.Lawful.Steps.{Comes, Next, StepKept, gone}

abbrev kinds_of : List Step → List StepKind
kinds_of steps = map (λ s. s.kind) steps

before_changed : (changed : Bool) (demand : Demand) (n : ℕ) → (demand_before changed demand n).changed ≡ changed
before_changed changed demand zero = refl
before_changed changed demand (suc n) = refl

near_none : (changed : Bool) (wanted : Bool) (root : Option Root) (begins : Option Begins) → SameRoot root begins → (is_some root ≡ true → changed ≡ wanted) → (changed ≡ true → is_near begins ≡ true) → wanted ≡ true → is_near begins ≡ true
near_none changed wanted None None same ahead near is = refl
near_none changed wanted None (Some begins) same ahead near is = absurd same
near_none changed wanted (Some root) begins same ahead near is = near (ahead refl ∙ is)

module _ (sight : Sight) where
  -- a walk with these steps before it: what is changed lies ahead where it is told so
  record Under (changed : Bool) (demand : Demand) (first : TypedExpr) (steps : List Step) (walk : Walk) : Type 0 where
    begins : walk.first ≡ first
    comes : Comes sight (demand_before changed demand (length steps)) (path_of sight first).root walk
    ahead : is_some walk.root ≡ true → changed ≡ leads demand.changed (kinds_of steps)

  -- a walk that is done
  pub record Done (demand : Demand) (first : TypedExpr) (walk : Walk) : Type 0 where
    pub begins : walk.first ≡ first
    pub comes : Comes sight demand (path_of sight first).root walk

  start_under : (changed : Bool) (demand : Demand) (steps : List Step) (j : Judged) → changed ≡ leads demand.changed (kinds_of steps) → Standing sight (demand_before changed demand (length steps)) j → Under changed demand j.typed steps (walk_start j)
  start_under changed demand steps j is s = record {
    begins = refl;
    comes = record {
      walked_well = record { goes_well = refl; same = s.keeps.same };
      near = s.keeps.near;
      refers = ap (λ (o : Option Shape). may_refer (demand_before changed demand (length steps)).paths j.root o) (sym (path_shape sight j.typed)) ∙ s.keeps.refers;
      freed = s.keeps.freed;
    };
    ahead = λ some. is;
  }

  under_done : (changed : Bool) (demand : Demand) (first : TypedExpr) (walk : Walk) → Under changed demand first [] walk → Done demand first walk
  under_done changed demand first walk u = record {
    begins = u.begins;
    comes = record {
      walked_well = u.comes.walked_well;
      near = near_none changed demand.changed walk.root (end_of (path_of sight first).root (gone sight walk.suffixes)) u.comes.walked_well.same u.ahead u.comes.near;
      refers = u.comes.refers;
      freed = u.comes.freed;
    };
  }

  -- the walk behind one step, with the others before it
  record Behind (changed : Bool) (demand : Demand) (first : TypedExpr) (steps : List Step) (walk next : Walk) : Type 0 where
    under : Under changed demand first steps next
    longer : length next.suffixes ≡ length walk.suffixes + 1

  step_next : (changed : Bool) (demand : Demand) (first : TypedExpr) (s : Step) (steps : List Step) (walk next : Walk) → Under changed demand first (s ∷ steps) walk → Next sight (demand_before changed demand (length steps)) (path_of sight first).root s.kind walk next → Behind changed demand first steps walk next
  step_next changed demand first s steps walk next u n = record {
    under = record {
      begins = n.begins ∙ u.begins;
      comes = n.comes;
      ahead = λ some. u.ahead (n.stems some) ∙ ap (λ (k : StepKind). leads demand.changed (k ∷ kinds_of steps)) (n.inner some);
    };
    longer = n.longer;
  }

  step_kept : (spot : Spot) (changed : Bool) (demand : Demand) (count : ℕ) (first : TypedExpr) (s : Step) (steps : List Step) (walk : Walk) → count ≡ length walk.suffixes + suc (length steps) → StepKept sight s → Under changed demand first (s ∷ steps) walk → Sure (Behind changed demand first steps walk) (step_found spot changed demand count walk s)
  step_kept spot changed demand count first s steps walk is k u =
      let left : count - (length walk.suffixes + 1) ≡ length steps = omega arith in
      let asked = demand_before changed demand (length steps) in
      let same = before_changed changed demand (length steps) in
      subst (λ (m : ℕ). Sure (Behind changed demand first steps walk) (s.found spot (demand_before changed demand m) walk)) (sym left)
      (let found = k.at_walk spot asked (path_of sight first).root walk u.comes.walked_well
      (λ h. u.comes.near (sym same ∙ h))
      (λ kind some. same ∙ u.ahead some ∙ ap (λ (c : StepKind). leads demand.changed (c ∷ kinds_of steps)) kind) in
      record { where_clear = λ h. step_next changed demand first s steps walk (s.found spot asked walk).part u (found.where_clear h) })

  steps_kept : (spot : Spot) (changed : Bool) (demand : Demand) (count : ℕ) (first : TypedExpr) (steps : List Step) (walk : Walk) → AllByRecursion (StepKept sight) steps → count ≡ length walk.suffixes + length steps → Under changed demand first steps walk → Sure (Done demand first) (through (step_found spot changed demand count) walk steps)
  unfolding through
  steps_kept spot changed demand count first [] walk all is u = sure_sound (Done demand first) walk (under_done changed demand first walk u)
  steps_kept spot changed demand count first (s ∷ steps) walk all is u =
      sure_then (Behind changed demand first steps walk) (Done demand first) (step_found spot changed demand count walk s) (λ next. through (step_found spot changed demand count) next steps)
      (step_kept spot changed demand count first s steps walk is all.0 u)
      (λ next b. steps_kept spot changed demand count first steps next all.1 (let longer = b.longer in omega arith) b.under)

  -- the steps behind a value
  pub walked_kept : (spot : Spot) (changed : Bool) (demand : Demand) (steps : List Step) (j : Judged) → changed ≡ leads demand.changed (map (λ s. s.kind) steps) → AllByRecursion (StepKept sight) steps → Standing sight (demand_before changed demand (length steps)) j → Sure (Done demand j.typed) (walked_from spot changed demand steps j)
  unfolding walked_from
  walked_kept spot changed demand steps j is all s = steps_kept spot changed demand (length steps) j.typed steps (walk_start j) all (omega arith) (start_under changed demand steps j is s)

  -- ---- a value with steps behind it

  postfix_path : (first : TypedExpr) (us : List TypedSuffix) (s : Option Shape) → node_pathed sight (made.Postfix first us) s ≡ record { shape = s; root = end_of (path_of sight first).root (gone sight us); lawful = (path_of sight first).lawful && goes (path_of sight first).root (gone sight us) }
  postfix_path first us s = pathed sight (typed.Postfix first us) (made.Postfix first us) s (made.rolls-Postfix first us)

  postfix_own : (demand : Demand) (first : TypedExpr) (walk : Walk) → (path_of sight first).lawful ≡ true → Done demand first walk → Own sight demand walk.root (made.Postfix first walk.suffixes) walk.shape
  postfix_own demand first walk h d =
      let is = postfix_path first walk.suffixes walk.shape in
      record {
        lawful = ap (λ (p : Path). p.lawful) is ∙ and_from (path_of sight first).lawful (goes (path_of sight first).root (gone sight walk.suffixes)) h d.comes.walked_well.goes_well;
        same = subst (λ (p : Path). SameRoot walk.root p.root) (sym is) d.comes.walked_well.same;
        near = λ changed. ap (λ (p : Path). is_near p.root) is ∙ d.comes.near changed;
      }

  postfix_of_kept : (demand : Demand) (first : TypedExpr) (walk : Walk) → (path_of sight first).lawful ≡ true → Done demand first walk → Sure (Standing sight demand) (postfix_of walk)
  unfolding postfix_of
  postfix_of_kept demand first walk h d =
      sure_sound (Standing sight demand) (record { typed = roll-TypedExpr record { shape = walk.shape; node = made.Postfix walk.first walk.suffixes }; root = walk.root; signed = false })
      (made_stands sight demand walk.root (made.Postfix walk.first walk.suffixes) walk.shape
      (subst (λ (e : TypedExpr). Own sight demand walk.root (made.Postfix e walk.suffixes) walk.shape) (sym d.begins) (postfix_own demand first walk h d))
      (record { refers = d.comes.refers; freed = d.comes.freed }))

  rest_kept : (changed : Bool) (steps : List Step) (spot : Spot) (demand : Demand) (j : Judged) → changed ≡ leads demand.changed (map (λ s. s.kind) steps) → AllByRecursion (StepKept sight) steps → Standing sight (demand_before changed demand (length steps)) j → Sure (Standing sight demand) (postfix_rest changed steps spot demand j)
  unfolding postfix_rest
  rest_kept changed steps spot demand j is all s =
      sure_then (Done demand j.typed) (Standing sight demand) (walked_from spot changed demand steps j) postfix_of
      (walked_kept spot changed demand steps j is all s)
      (λ walk d. postfix_of_kept demand j.typed walk s.keeps.lawful d)

  -- a value with steps behind it
  pub postfix_kept : (part : Part) (steps : List Step) (spot : Spot) → PartKept sight part → AllByRecursion (StepKept sight) steps → PartKept sight (λ demand. postfix_found (leads demand.changed (map (λ s. s.kind) steps)) part steps spot demand)
  postfix_kept part steps spot p all = record {
    at_demand = λ demand.
        let changed = leads demand.changed (map (λ s. s.kind) steps) in
        let before = demand_before changed demand (length steps) in
        sure_then (Standing sight before) (Standing sight demand) (part before) (postfix_rest changed steps spot demand) (p.at_demand before)
        (λ j s. rest_kept changed steps spot demand j refl all s);
  }
