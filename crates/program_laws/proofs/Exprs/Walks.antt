-- A value with steps behind it answers, and so does a place that is assigned.
use Rattle.std.proofs.Common.{◌≡◌, ◌+◌, ◌-◌, ◌∷◌}
use Rattle.program_laws.proofs.Common.{ℕ, suc, Bool, true, false, List, [], map, length, Option, Some, None, refl, sym, ap, subst, ◌∙◌, arith, AllByRecursion, and_from, Spot, Shape, TypedExpr, out-TypedExpr, TypedSuffix, Variable, stands, Names, checked, holds, shape_of, stepping, walks, variable_shape, Found, Judged, Walk, Demand, Wish, Value, Part, Step, demand_before, walk_start, step_found, walk_found, postfix_found, Target, variable_of, target_at, target_of, wish_stands}
use Rattle.typed_program.specs.declared.expression.TypedNode.TheVariants as made
use Rattle.typed_program.specs.declared.expression.TypedNode.TheOpen as typed
use Rattle.expr_rules.specs.Asked.{assigned}
use Rattle.expr_rules.specs.Postfix.{postfix_of, walked_from, postfix_rest}
use Rattle.expr_rules.specs.Then.{and_then, through}
use Rattle.expr_check.specs.Checks.{target}
use Rattle.program_laws.proofs.Exprs.Sure.{Sure, sure_then, sure_sound}
use Rattle.program_laws.proofs.Exprs.Holding.{node_checked, rolled, checked_shape}
use Rattle.program_laws.proofs.Exprs.Answering.{Answering, Answers, made_answers, some_known}
use Rattle.program_laws.proofs.Exprs.Names.{IsVariable, Rooted}
use Rattle.program_laws.proofs.Exprs.Steps.{Reaches, start_reaches, Next, StepAnswers, from_stands}

-- what is asked of a value with these steps behind it
abbrev wish_before : List Step → Demand → Wish
wish_before [] demand = demand.wish
wish_before (s ∷ steps) demand = Value

before_is : (changed : Bool) (demand : Demand) (steps : List Step) → (demand_before changed demand (length steps)).wish ≡ wish_before steps demand
before_is changed demand [] = refl
before_is changed demand (s ∷ steps) = refl

module _ (names : Names) where
  before_stands : (steps : List Step) (demand : Demand) → wish_stands names.types demand.wish ≡ true → wish_stands names.types (wish_before steps demand) ≡ true
  before_stands [] demand h = h
  before_stands (s ∷ steps) demand h = refl

  -- the walk behind one step more, with these behind it
  abbrev Onward : List Step → Demand → TypedExpr → Walk → Walk → Type 0
  Onward steps demand first walk = Next names (wish_before steps demand) first walk

  step_sure : (spot : Spot) (changed : Bool) (demand : Demand) (count : ℕ) (first : TypedExpr) (s : Step) (steps : List Step) (walk : Walk) → count ≡ length walk.suffixes + suc (length steps) → wish_stands names.types demand.wish ≡ true → StepAnswers names s → Reaches names Value first walk → Sure (Onward steps demand first walk) (step_found spot changed demand count walk s)
  step_sure spot changed demand count first s steps walk is stands a r =
      let left : count - (length walk.suffixes + 1) ≡ length steps = omega arith in
      subst (λ (m : ℕ). Sure (Onward steps demand first walk) (s.found spot (demand_before changed demand m) walk)) (sym left)
      (subst (λ (w : Wish). Sure (Next names w first walk) (s.found spot (demand_before changed demand (length steps)) walk)) (before_is changed demand steps)
      (a.at_walk spot (demand_before changed demand (length steps)) first walk
      (subst (λ (w : Wish). wish_stands names.types w ≡ true) (sym (before_is changed demand steps)) (before_stands steps demand stands)) r))

  steps_sure : (spot : Spot) (changed : Bool) (demand : Demand) (count : ℕ) (first : TypedExpr) (steps : List Step) (walk : Walk) → AllByRecursion (StepAnswers names) steps → count ≡ length walk.suffixes + length steps → wish_stands names.types demand.wish ≡ true → Reaches names (wish_before steps demand) first walk → Sure (Reaches names demand.wish first) (through (step_found spot changed demand count) walk steps)
  unfolding through
  steps_sure spot changed demand count first [] walk all is stands r = sure_sound (Reaches names demand.wish first) walk r
  steps_sure spot changed demand count first (s ∷ steps) walk all is stands r =
      sure_then (Onward steps demand first walk) (Reaches names demand.wish first) (step_found spot changed demand count walk s) (λ next. through (step_found spot changed demand count) next steps)
      (step_sure spot changed demand count first s steps walk is stands all.0 r)
      (λ next n. steps_sure spot changed demand count first steps next all.1 (let longer = n.longer in omega arith) stands n.reaches)

  walked_sure : (spot : Spot) (changed : Bool) (demand : Demand) (steps : List Step) (j : Judged) → AllByRecursion (StepAnswers names) steps → wish_stands names.types demand.wish ≡ true → Answering names (wish_before steps demand) j → Sure (Reaches names demand.wish j.typed) (walked_from spot changed demand steps j)
  unfolding walked_from
  walked_sure spot changed demand steps j all stands a = steps_sure spot changed demand (length steps) j.typed steps (walk_start j) all (omega arith) stands (start_reaches names (wish_before steps demand) j a)

  postfix_holds : (first : TypedExpr) (suffixes : List TypedSuffix) (s : Option Shape) → holds names first ≡ true → walks (shape_of first) (map (stepping names) suffixes) s ≡ true → node_checked names (made.Postfix first suffixes) s ≡ true
  postfix_holds first suffixes s h k = rolled names (typed.Postfix first suffixes) (made.Postfix first suffixes) s (made.rolls-Postfix first suffixes)
      (and_from (holds names first) (walks (checked names first).shape (map (stepping names) suffixes) s) h
      (ap (λ (o : Option Shape). walks o (map (stepping names) suffixes) s) (checked_shape names first) ∙ k))

  postfix_sure : (wish : Wish) (first : TypedExpr) (walk : Walk) → holds names first ≡ true → Reaches names wish first walk → Sure (Answering names wish) (postfix_of walk)
  unfolding postfix_of
  postfix_sure wish first walk h r =
      sure_sound (Answering names wish) (record { typed = _; root = walk.root; signed = false })
      (made_answers names wish walk.shape (made.Postfix walk.first walk.suffixes) walk.root false
      (record {
        there = r.there;
        node_holds = postfix_holds walk.first walk.suffixes walk.shape
            (subst (λ (e : TypedExpr). holds names e ≡ true) (sym r.begins) h)
            (subst (λ (e : TypedExpr). walks (shape_of e) (map (stepping names) walk.suffixes) walk.shape ≡ true) (sym r.begins) r.led);
      })
      r.fit)

  rest_sure : (changed : Bool) (steps : List Step) (spot : Spot) (demand : Demand) (j : Judged) → AllByRecursion (StepAnswers names) steps → wish_stands names.types demand.wish ≡ true → Answering names (wish_before steps demand) j → Sure (Answering names demand.wish) (postfix_rest changed steps spot demand j)
  unfolding postfix_rest
  rest_sure changed steps spot demand j all stands a =
      sure_then (Reaches names demand.wish j.typed) (Answering names demand.wish) (walked_from spot changed demand steps j) postfix_of
      (walked_sure spot changed demand steps j all stands a)
      (λ walk r. postfix_sure demand.wish j.typed walk a.whole r)

  before_sure : (P : Wish → Judged → Type 0) (changed : Bool) (demand : Demand) (steps : List Step) (found : Found Judged) → Sure (P (demand_before changed demand (length steps)).wish) found → Sure (P (wish_before steps demand)) found
  before_sure P changed demand steps found h = subst (λ (w : Wish). Sure (P w) found) (before_is changed demand steps) h

  pub postfix_answers : (changed : Demand → Bool) (part : Part) (steps : List Step) (spot : Spot) → Answers names part → AllByRecursion (StepAnswers names) steps → Answers names (λ demand. postfix_found (changed demand) part steps spot demand)
  postfix_answers changed part steps spot p all = record {
    at_demand = λ demand stands.
        let before = demand_before (changed demand) demand (length steps) in
        sure_then (Answering names (wish_before steps demand)) (Answering names demand.wish) (part before) (postfix_rest (changed demand) steps spot demand)
        (before_sure (Answering names) (changed demand) demand steps (part before)
        (p.at_demand before (subst (λ (w : Wish). wish_stands names.types w ≡ true) (sym (before_is (changed demand) demand steps)) (before_stands steps demand stands))))
        (λ j a. rest_sure (changed demand) steps spot demand j all stands a);
  }

  -- ---- places

  -- what is assigned: its shape is known and stands, and its steps lead there from the variable
  pub record TargetAnswers (t : Target) : Type 0 where
    pub known : t.known ≡ true
    pub stands_there : stands names.types t.place.shape ≡ true
    pub led : walks (variable_shape names t.place.variable) (map (stepping names) t.place.steps) (Some t.place.shape) ≡ true

  target_answers : (v : Variable) (steps : List TypedSuffix) (o : Option Shape) (s : Shape) → o ≡ Some s → stands names.types s ≡ true → walks (variable_shape names v) (map (stepping names) steps) o ≡ true → TargetAnswers (target_at v steps o)
  target_answers v steps None s is there led = absurd (cc)
  target_answers v steps (Some t) s is there led = record { known = refl; stands_there = (let e : t ≡ s = cc in subst (λ (u : Shape). stands names.types u ≡ true) (sym e) there); led = led }

  target_sure : (first : TypedExpr) (walk : Walk) → IsVariable names first → Reaches names Value first walk → Sure TargetAnswers (target walk)
  target_sure first walk v r =
      let known = some_known walk.shape r.fit in
      sure_sound TargetAnswers (target_of walk)
      (target_answers (variable_of (out-TypedExpr walk.first).node) walk.suffixes walk.shape known.0 known.1 (from_stands names first walk known.0 r known.1)
      (subst (λ (e : TypedExpr). walks (variable_shape names (variable_of (out-TypedExpr e).node)) (map (stepping names) walk.suffixes) walk.shape ≡ true) (sym r.begins)
      (ap (λ (o : Option Shape). walks o (map (stepping names) walk.suffixes) walk.shape) v.numbered ∙ r.led)))

  record Set (demand : Demand) (steps : List Step) (j : Judged) : Type 0 where
    answering : Answering names (wish_before steps demand) j
    variable_there : IsVariable names j.typed

  rooted_set : (changed : Bool) (steps : List Step) (j : Judged) → Rooted names (demand_before changed assigned (length steps)) j → Set assigned steps j
  rooted_set changed steps j r = record { answering = subst (λ (w : Wish). Answering names w j) (before_is changed assigned steps) r.answering; variable_there = r.variable_there }

  -- a walk from a variable to what is assigned
  record Arrives (walk : Walk) : Type 0 where
    start : TypedExpr
    is_variable : IsVariable names start
    reaches : Reaches names Value start walk

  pub place_sure : (changed : Bool) (part : Part) (steps : List Step) (spot : Spot) → ((demand : Demand) → Sure (Rooted names demand) (part demand)) → AllByRecursion (StepAnswers names) steps → Sure TargetAnswers (and_then (walk_found changed part steps spot assigned) target)
  place_sure changed part steps spot root all =
      let before = demand_before changed assigned (length steps) in
      sure_then Arrives TargetAnswers (walk_found changed part steps spot assigned) target
      (sure_then (Rooted names before) Arrives (part before) (walked_from spot changed assigned steps) (root before)
      (λ j r.
      let set = rooted_set changed steps j r in
      let walked = walked_sure spot changed assigned steps j all refl set.answering in
      record { where_clear = λ h. record { start = j.typed; is_variable = set.variable_there; reaches = walked.where_clear h } }))
      (λ walk w. target_sure w.start walk w.is_variable w.reaches)
