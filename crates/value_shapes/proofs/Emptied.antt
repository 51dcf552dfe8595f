-- A value that is emptied of listeners has the shapes that it had.
use Rattle.std.proofs.Common.{◌≡◌, ◌∷◌}
use Rattle.value_shapes.proofs.Common.{ℕ, List, [], map, refl, sym, ap, ap₂, ◌∙◌, subst, Shape, Shape-F, out-Shape, EventShape, Value, Value-F, roll-Value, map-Value, fold-roll-Value, Pair, PairFit, all_fit, fits, pair_fits, pair_has, AreOrderly, Fit, AllFit}
use Rattle.epl_values.specs.declared.shape.Shape.TheOpen as shape_layer
use Rattle.epl_values.specs.declared.value.Value.{ind-Value}
use Rattle.epl_values.specs.declared.value.Value.TheOpen as layer
use Rattle.epl_values.specs.declared.value.Value.TheOpen.{Pair-F}
use Rattle.epl_values.specs.declared.value.Value.TheVariants as value
use Rattle.epl_values.specs.declared.value.Pair.{roll-Pair, map-Pair, fold-roll-Pair}
use Rattle.body_meaning.specs.Effects.{emptied, emptied_pair, emptied_step}
use Rattle.value_rules.specs.Shapes.{Fit as Test, has}
use Rattle.value_steps.specs.Emptied.{emptied_entry}
use Rattle.value_steps.proofs.Emptying.{rolled}
use Rattle.value_steps.proofs.StillOrderly.{emptied_orderly}

module _ (types : List EventShape) where
  -- which shapes a layer has
  abbrev tests : Value-F Value Pair → Value-F Test PairFit
  tests l = map-Value Value Pair Test PairFit (has types) (pair_has types) l

  abbrev tested : Value-F Test PairFit → Test
  tested l = λ s. fits types l (out-Shape s)

  abbrev pair_tests : Pair-F Value Pair → Pair-F Test PairFit
  pair_tests q = map-Pair Value Pair Test PairFit (has types) (pair_has types) q

  has_rolled : (l : Value-F Value Pair) → has types (roll-Value l) ≡ tested (tests l)
  has_rolled l = fold-roll-Value Test PairFit (λ v s. fits types v (out-Shape s)) pair_fits l

  pair_rolled : (q : Pair-F Value Pair) → pair_has types (roll-Pair q) ≡ pair_fits (pair_tests q)
  pair_rolled q = fold-roll-Pair Test PairFit (λ v s. fits types v (out-Shape s)) pair_fits q

  abbrev Stays : Value → Type 0
  Stays v = has types (emptied v) ≡ has types v

  abbrev PairStays : Pair → Type 0
  PairStays p = pair_has types (emptied_entry p) ≡ pair_has types p

  abbrev Known : Type 0
  Known = (v : Value) × Stays v

  abbrev KnownPair : Type 0
  KnownPair = (p : Pair) × PairStays p

  abbrev values_in : Value-F Known KnownPair → Value-F Value Pair
  values_in y = map-Value Known KnownPair Value Pair (λ e. e.0) (λ e. e.0) y

  abbrev parts_in : Pair-F Known KnownPair → Pair-F Value Pair
  parts_in y = map-Pair Known KnownPair Value Pair (λ e. e.0) (λ e. e.0) y

  values_stay : (zs : List Known) → map (has types) (map emptied (map (λ z. z.0) zs)) ≡ map (has types) (map (λ z. z.0) zs)
  values_stay [] = refl
  values_stay (z ∷ zs) = ap₂ (λ (t : Test) (ts : List Test). t ∷ ts) z.1 (values_stay zs)

  pairs_stay : (zs : List KnownPair) → map (pair_has types) (map emptied_entry (map (λ z. z.0) zs)) ≡ map (pair_has types) (map (λ z. z.0) zs)
  pairs_stay [] = refl
  pairs_stay (z ∷ zs) = ap₂ (λ (t : PairFit) (ts : List PairFit). t ∷ ts) z.1 (pairs_stay zs)

  -- each listener has the shape of listeners
  listener_same : (a b : ℕ) (d : Shape-F Shape) → fits types (layer.Listener a) d ≡ fits types (layer.Listener b) d
  listener_same a b shape_layer.Listener = refl
  listener_same a b shape_layer.Integer = refl
  listener_same a b shape_layer.Boolean = refl
  listener_same a b shape_layer.Text = refl
  listener_same a b (shape_layer.Sequence element) = refl
  listener_same a b (shape_layer.Dictionary k item) = refl
  listener_same a b (shape_layer.Event n) = refl
  listener_same a b shape_layer.Context = refl

  layer_stays : (y : Value-F Known KnownPair) → has types (emptied_step (map-Value Value Pair Value Pair emptied emptied_entry (values_in y))) ≡ tested (tests (values_in y))
  layer_stays (layer.Integer n) = ap (has types) (sym (value.rolls-Integer n)) ∙ has_rolled (layer.Integer n)
  layer_stays (layer.Boolean b) = ap (has types) (sym (value.rolls-Boolean b)) ∙ has_rolled (layer.Boolean b)
  layer_stays (layer.Text t) = ap (has types) (sym (value.rolls-Text t)) ∙ has_rolled (layer.Text t)
  layer_stays (layer.Sequence zs) = ap (has types) (sym (value.rolls-Sequence (map emptied (map (λ z. z.0) zs)))) ∙ has_rolled (layer.Sequence (map emptied (map (λ z. z.0) zs))) ∙ ap (λ (ts : List Test). tested (layer.Sequence ts)) (values_stay zs)
  layer_stays (layer.Dictionary zs) = ap (has types) (sym (value.rolls-Dictionary (map emptied_entry (map (λ z. z.0) zs)))) ∙ has_rolled (layer.Dictionary (map emptied_entry (map (λ z. z.0) zs))) ∙ ap (λ (ts : List PairFit). tested (layer.Dictionary ts)) (pairs_stay zs)
  layer_stays (layer.Event n zs) = ap (has types) (sym (value.rolls-Event n (map emptied (map (λ z. z.0) zs)))) ∙ has_rolled (layer.Event n (map emptied (map (λ z. z.0) zs))) ∙ ap (λ (ts : List Test). tested (layer.Event n ts)) (values_stay zs)
  layer_stays (layer.Context slot) = ap (has types) (sym (value.rolls-Context slot)) ∙ has_rolled (layer.Context slot)
  layer_stays layer.NoContext = ap (has types) (sym value.rolls-NoContext) ∙ has_rolled layer.NoContext
  layer_stays (layer.Listener birth) = ap (has types) (sym (value.rolls-Listener 0)) ∙ has_rolled (layer.Listener 0) ∙ (λ i s. listener_same 0 birth (out-Shape s) i)

  value_case : (x : Value-F Value Pair) (y : Value-F Known KnownPair) → values_in y ≡ x → Stays (roll-Value x)
  value_case x y is = subst (λ (z : Value-F Value Pair). Stays (roll-Value z)) is (ap (has types) (rolled (values_in y)) ∙ layer_stays y ∙ sym (has_rolled (values_in y)))

  pair_case : (x : Pair-F Value Pair) (y : Pair-F Known KnownPair) → parts_in y ≡ x → PairStays (roll-Pair x)
  pair_case x y is = subst (λ (z : Pair-F Value Pair). PairStays (roll-Pair z)) is
      (ap (pair_has types) (fold-roll-Pair Value Pair emptied_step emptied_pair (parts_in y))
      ∙ pair_rolled (map-Pair Value Pair Value Pair emptied emptied_entry (parts_in y))
      ∙ ap₂ {C = PairFit} (λ (a b : Test). pair_fits (record { key = a; value = b })) y.key.1 y.value.1
      ∙ sym (pair_rolled (parts_in y)))

  -- the shapes of an emptied value are those of the value
  pub emptied_same : (v : Value) → has types (emptied v) ≡ has types v
  emptied_same = ind-Value Stays PairStays value_case pair_case

  pub emptied_fits : (v : Value) (s : Shape) → Fit types v s → Fit types (emptied v) s
  emptied_fits v s f = record { has = ap (λ (t : Test). t s) (emptied_same v) ∙ f.has; order = emptied_orderly v f.order }

  all_same : (values : List Value) → map (has types) (map emptied values) ≡ map (has types) values
  all_same [] = refl
  all_same (v ∷ vs) = ap₂ (λ (t : Test) (ts : List Test). t ∷ ts) (emptied_same v) (all_same vs)

  all_orderly : (values : List Value) → AreOrderly values → AreOrderly (map emptied values)
  all_orderly [] a = tt
  all_orderly (v ∷ vs) a = (emptied_orderly v a.0, all_orderly vs a.1)

  -- the same of several values
  pub all_emptied_fits : (values : List Value) (shapes : List Shape) → AllFit types values shapes → AllFit types (map emptied values) shapes
  all_emptied_fits values shapes a = record { have = ap (λ (ts : List Test). all_fit ts shapes) (all_same values) ∙ a.have; order = all_orderly values a.order }
