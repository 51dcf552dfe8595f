-- A field, an element and a method keep the rules behind a value: what is changed is near, and may be changed.
use Rattle.std.proofs.Common.{◌≡◌, ◌+◌, ◌∷◌, ◌++◌, if◌then◌else◌}
use Rattle.program_laws.proofs.Common.{ℕ, not, Bool, true, false, List, [], map, length, min, nat_le, Option, Some, None, is_some, slice_get, refl, sym, ap, subst, ◌∙◌, true≢false, arith, and_parts, and_from, le-leb, length_push, Spot, Field, Shape, Shape-F, out-Shape, Method, TypedExpr, TypedSuffix, roll-TypedSuffix, TypedSuffixNode, Sight, Going, may_change, goes, end_of, path_of, going_of, Table, Reach, Judged, Root, StepKind, Walk, Demand, fields_at, Part, change_code, Step, walked, reached, field_reach, field_found, element_reach_layer, near, is_far, nearer, index_found, SameRoot}
use Rattle.std.proofs.lemmas.Bool.{eqb-false}
use Rattle.epl_values.specs.declared.shape.Shape.TheOpen as layer
use Rattle.typed_program.specs.declared.expression.Method.TheVariants as method
use Rattle.typed_program.specs.declared.expression.TypedNode.TheOpen as typed
use Rattle.typed_program.specs.declared.expression.TypedSuffixNode.TheVariants as suffix
use Rattle.typed_program.specs.Paths.{plain, farther, going_field, going_index}
use Rattle.typed_program.specs.Paths.{Root as Begins, changes as changing}
use Rattle.expr_rules.specs.declared.steps.StepKind.TheVariants as step
use Rattle.expr_rules.specs.Asked.{plain as plainly}
use Rattle.expr_rules.specs.Methods.{changes}
use Rattle.expr_rules.specs.Places.{is_fixed, placed}
use Rattle.expr_rules.specs.Postfix.{field_at, place_of, field_in, field_of, index_wish, element_reach, element_step}
use Rattle.program_laws.proofs.Exprs.Sure.{Sure, sure_then, sure_sound, sure_node}
use Rattle.program_laws.proofs.Lawful.Literals.{plain_asked}
use Rattle.program_laws.proofs.Lawful.Operands.{PartKept}
use Rattle.program_laws.proofs.Lawful.Paths.{step_going, stepped, going_made}
use Rattle.program_laws.proofs.Lawful.Standing.{Standing, Placed, is_near, may_refer, placed_kept}
use Rattle.program_laws.proofs.Shapes.Lists.{no_if}

-- ---- roots

nearer_same : (root : Option Root) (begins : Option Begins) → SameRoot root begins → SameRoot (nearer root) (farther begins)
nearer_same None None same = tt
nearer_same None (Some begins) same = absurd same
nearer_same (Some root) None same = absurd same
nearer_same (Some root) (Some begins) same = (same.0, same.1, (let left = same.2 in omega arith))

not_far : (changed : Bool) (root : Option Root) (begins : Option Begins) → SameRoot root begins → is_far changed root ≡ false → changed ≡ true → is_near (farther begins) ≡ true
not_far changed None None same h is = refl
not_far changed None (Some begins) same h is = absurd same
not_far changed (Some root) None same h is = absurd same
not_far true (Some root) (Some begins) same h is =
    let left = same.2 in let some = eqb-false root.left 0 h in
    le-leb (begins.steps + 1) 64 (omega (arith, some))
not_far false (Some root) (Some begins) same h is = absurd (true≢false (sym is))

change_clear : (fixed : Bool) (code : ℕ) → (if fixed then Some code else None) ≡ None → not fixed ≡ true
change_clear true code h = absurd (cc)
change_clear false code h = refl

-- what may be changed, where no change of what stays is told
pub changed_well : (root : Option Root) (begins : Option Begins) → SameRoot root begins → change_code true root ≡ None → (is_some root ≡ true → is_near begins ≡ true) → may_change begins ≡ true
changed_well None None same h near = refl
changed_well None (Some begins) same h near = absurd same
changed_well (Some root) None same h near = absurd same
changed_well (Some root) (Some begins) same h near = and_from (not begins.stays) (nat_le begins.steps 64) (ap not same.0 ∙ change_clear (is_fixed root) 12 h) (near refl)

-- the methods that change their object are the same in the text and in the tree
pub changing_same : (m : Method) → changing m ≡ changes m
changing_same method.Append = refl
changing_same method.Remove = refl
changing_same method.Clear = refl
changing_same method.Add = refl
changing_same m = refl

nearer_some : (root : Option Root) → is_some (nearer root) ≡ true → is_some root ≡ true
nearer_some None h = h
nearer_some (Some root) h = refl

module _ (sight : Sight) where
  abbrev pub gone : List TypedSuffix → List Going
  gone us = map (going_of sight) us

  goes_push : (root : Option Begins) (us : List TypedSuffix) (u : TypedSuffix) → goes root (gone us) ≡ true → (going_of sight u).may (end_of root (gone us)) ≡ true → goes root (gone (us ++ u ∷ [])) ≡ true
  goes_push root [] u h k = and_from ((going_of sight u).may root) true k refl
  goes_push root (x ∷ us) u h k =
      let b = and_parts ((going_of sight x).may root) (goes ((going_of sight x).root root) (gone us)) h in
      and_from ((going_of sight x).may root) (goes ((going_of sight x).root root) (gone (us ++ u ∷ []))) b.0 (goes_push ((going_of sight x).root root) us u b.1 k)

  end_push : (root : Option Begins) (us : List TypedSuffix) (u : TypedSuffix) → end_of root (gone (us ++ u ∷ [])) ≡ (going_of sight u).root (end_of root (gone us))
  end_push root [] u = refl
  end_push root (x ∷ us) u = end_push ((going_of sight x).root root) us u

  -- a walk from where a path begins: its steps keep the rules, and its root is where they lead
  pub record Walked (from : Option Begins) (walk : Walk) : Type 0 where
    pub goes_well : goes from (gone walk.suffixes) ≡ true
    pub same : SameRoot walk.root (end_of from (gone walk.suffixes))

  -- a walk at its place
  pub record Comes (demand : Demand) (from : Option Begins) (walk : Walk) : Type 0 where
    pub walked_well : Walked from walk
    pub near : demand.changed ≡ true → is_near (end_of from (gone walk.suffixes)) ≡ true
    pub refers : may_refer demand.paths walk.root walk.shape ≡ true
    pub freed : change_code demand.assigned walk.root ≡ None

  -- the walk behind one step more: behind a method no path goes on
  pub record Next (demand : Demand) (from : Option Begins) (kind : StepKind) (walk next : Walk) : Type 0 where
    pub begins : next.first ≡ walk.first
    pub comes : Comes demand from next
    pub longer : length next.suffixes ≡ length walk.suffixes + 1
    pub inner : is_some next.root ≡ true → kind ≡ step.Inner
    pub stems : is_some next.root ≡ true → is_some walk.root ≡ true

  -- a step that keeps the rules wherever it stands; one that changes its object is told so
  pub record StepKept (s : Step) : Type 0 where
    pub at_walk : (spot : Spot) (demand : Demand) (from : Option Begins) (walk : Walk) → Walked from walk → (demand.changed ≡ true → is_near (end_of from (gone walk.suffixes)) ≡ true) → (s.kind ≡ step.Change → is_some walk.root ≡ true → demand.changed ≡ true) → Sure (Next demand from s.kind walk) (s.found spot demand walk)

  -- what a step does behind what begins there
  pub record Onward (demand : Demand) (root : Option Root) (n : TypedSuffixNode) (at : Option Begins) : Type 0 where
    may : (step_going sight n).may at ≡ true
    same : SameRoot root ((step_going sight n).root at)
    near : demand.changed ≡ true → is_near ((step_going sight n).root at) ≡ true

  -- a step by where it goes
  pub onward_as : (demand : Demand) (root : Option Root) (n : TypedSuffixNode) (at : Option Begins) (g : Going) → step_going sight n ≡ g → g.may at ≡ true → SameRoot root (g.root at) → (demand.changed ≡ true → is_near (g.root at) ≡ true) → Onward demand root n at
  onward_as demand root n at g is may same near = record {
    may = ap (λ (x : Going). x.may at) is ∙ may;
    same = subst (λ (x : Going). SameRoot root (x.root at)) (sym is) same;
    near = λ changed. ap (λ (x : Going). is_near (x.root at)) is ∙ near changed;
  }

  walked_on : (demand : Demand) (from : Option Begins) (kind : StepKind) (root : Option Root) (walk : Walk) (n : TypedSuffixNode) (s : Option Shape) → Walked from walk → (is_some root ≡ true → (kind ≡ step.Inner) × (is_some walk.root ≡ true)) → Onward demand root n (end_of from (gone walk.suffixes)) → Placed demand root s → Sure (Next demand from kind walk) (walked walk root n s)
  walked_on demand from kind root walk n s w inner o p =
      let u = roll-TypedSuffix record { shape = s; node = n } in
      let made = going_made sight s n in
      let ends : end_of from (gone (walk.suffixes ++ u ∷ [])) ≡ (step_going sight n).root (end_of from (gone walk.suffixes)) = end_push from walk.suffixes u ∙ ap (λ (x : Going). x.root (end_of from (gone walk.suffixes))) made in
      sure_sound (Next demand from kind walk) (record { first = walk.first; suffixes = walk.suffixes ++ u ∷ []; shape = s; root = root })
      (record {
        begins = refl;
        comes = record {
          walked_well = record {
            goes_well = goes_push from walk.suffixes u w.goes_well (ap (λ (x : Going). x.may (end_of from (gone walk.suffixes))) made ∙ o.may);
            same = subst (λ (e : Option Begins). SameRoot root e) (sym ends) o.same;
          };
          near = λ changed. ap is_near ends ∙ o.near changed;
          refers = p.refers;
          freed = p.freed;
        };
        longer = length_push walk.suffixes u;
        inner = λ some. (inner some).0;
        stems = λ some. (inner some).1;
      })

  -- a step at its place
  pub reached_kept : (spot : Spot) (demand : Demand) (from : Option Begins) (kind : StepKind) (root : Option Root) (walk : Walk) (reach : Reach) → Walked from walk → (is_some root ≡ true → (kind ≡ step.Inner) × (is_some walk.root ≡ true)) → (reach.own ≡ None → Onward demand root reach.node (end_of from (gone walk.suffixes))) → Sure (Next demand from kind walk) (reached spot demand root walk reach)
  reached_kept spot demand from kind root walk reach w inner h =
      sure_then (λ s. Onward demand root reach.node (end_of from (gone walk.suffixes)) × Placed demand root s) (Next demand from kind walk) (placed spot demand reach.own root reach.given) (walked walk root reach.node)
      (placed_kept (λ s. Onward demand root reach.node (end_of from (gone walk.suffixes)) × Placed demand root s) spot demand reach.own root reach.given (λ none p. (h none, p)))
      (λ s both. walked_on demand from kind root walk reach.node s w inner both.0 both.1)

  -- ---- fields

  abbrev IsField : Reach → Type 0
  IsField reach = (n : ℕ) × (reach.node ≡ suffix.Field n)

  numbered_is : (k : ℕ) (o : Option Field) → IsField (field_reach k o)
  numbered_is k None = (0, refl)
  numbered_is k (Some f) = (min 65535 k, refl)

  field_at_is : (fields : List Field) (o : Option ℕ) → IsField (field_at fields o)
  field_at_is fields None = (0, refl)
  field_at_is fields (Some n) = numbered_is n (slice_get fields n)

  field_in_is : (table : Table) (d : Shape-F Shape) (name : List ℕ) → IsField (field_in table d name)
  field_in_is table (layer.Event n) name = field_at_is (fields_at (slice_get table.types n)) (place_of (fields_at (slice_get table.types n)) name)
  field_in_is table d name = (0, refl)

  field_is : (table : Table) (o : Option Shape) (name : List ℕ) → IsField (field_of table o name)
  unfolding field_of
  field_is table None name = (0, refl)
  field_is table (Some s) name = field_in_is table (out-Shape s) name

  field_going : (reach : Reach) → IsField reach → step_going sight reach.node ≡ going_field
  field_going reach is = ap (step_going sight) is.1 ∙ stepped sight (typed.Field is.0) (suffix.Field is.0) (suffix.rolls-Field is.0)

  -- a field
  pub field_kept : (table : Table) (name : List ℕ) → StepKept (record { kind = step.Inner; found = field_found table name })
  field_kept table name = record {
    at_walk = λ spot demand from walk w near change.
        let reach = field_of table walk.shape name in
        reached_kept spot demand from step.Inner walk.root walk reach w (λ some. (refl, some))
        (λ none. onward_as demand walk.root reach.node (end_of from (gone walk.suffixes)) going_field (field_going reach (field_is table walk.shape name)) refl w.same near);
  }

  -- ---- elements

  item_going : (e : TypedExpr) → step_going sight (suffix.Item e) ≡ going_index (path_of sight e)
  item_going e = stepped sight (typed.Item e) (suffix.Item e) (suffix.rolls-Item e)

  key_going : (e : TypedExpr) → step_going sight (suffix.Key e) ≡ going_index (path_of sight e)
  key_going e = stepped sight (typed.Key e) (suffix.Key e) (suffix.rolls-Key e)

  layer_going : (d : Shape-F Shape) (e : TypedExpr) → step_going sight (element_reach_layer d e).node ≡ going_index (path_of sight e)
  layer_going (layer.Sequence item) e = item_going e
  layer_going (layer.Dictionary key value) e = key_going e
  layer_going d e = item_going e

  element_going : (o : Option Shape) (e : TypedExpr) → step_going sight (element_reach o e).node ≡ going_index (path_of sight e)
  unfolding element_reach
  element_going None e = item_going e
  element_going (Some s) e = layer_going (out-Shape s) e

  -- where an element's path goes on from
  record Near (demand : Demand) (walk : Walk) (at : Option Begins) (root : Option Root) : Type 0 where
    is_nearer : root ≡ nearer walk.root
    near_by : demand.changed ≡ true → is_near (farther at) ≡ true

  element_kept : (own spot : Spot) (demand : Demand) (from : Option Begins) (walk : Walk) (j : Judged) → Walked from walk → plain (path_of sight j.typed) ≡ true → Sure (Next demand from step.Inner walk) (element_step own spot demand walk j)
  unfolding element_step
  element_kept own spot demand from walk j w h =
      let at = end_of from (gone walk.suffixes) in
      let reach = element_reach walk.shape j.typed in
      sure_then (Near demand walk at) (Next demand from step.Inner walk) (near own demand.changed walk.root) (λ (root : Option Root). reached spot demand root walk reach)
      (sure_node (Near demand walk at) own (if is_far demand.changed walk.root then 4 ∷ [] else []) (nearer walk.root)
      (λ none. record { is_nearer = refl; near_by = λ changed. not_far demand.changed walk.root at w.same (no_if (is_far demand.changed walk.root) 4 none) changed }))
      (λ root n. reached_kept spot demand from step.Inner root walk reach w
      (λ some. (refl, nearer_some walk.root (sym (ap (λ (r : Option Root). is_some r) n.is_nearer) ∙ some)))
      (λ none. onward_as demand root reach.node at (going_index (path_of sight j.typed)) (element_going walk.shape j.typed) h
      (subst (λ (r : Option Root). SameRoot r (farther at)) (sym n.is_nearer) (nearer_same walk.root at w.same)) n.near_by))

  -- an element
  pub index_kept : (part : Part) (own : Spot) → PartKept sight part → StepKept (record { kind = step.Inner; found = index_found part own })
  index_kept part own p = record {
    at_walk = λ spot demand from walk w near change.
        let asked = plainly (index_wish walk.shape) in
        sure_then (Standing sight asked) (Next demand from step.Inner walk) (part asked) (element_step own spot demand walk) (p.at_demand asked)
        (λ j s. element_kept own spot demand from walk j w (plain_asked sight (index_wish walk.shape) j s));
  }
