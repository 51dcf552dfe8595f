-- An event type that stands in the shape of a field is met by its name in the type that is written for it.
use Rattle.std.proofs.Common.{◌≡◌, ◌∷◌, ◌++◌, ◌||◌}
use Rattle.program_laws.proofs.Common.{ℕ, min, List, [], Some, None, Bool, true, Option, refl, ap, sym, subst, ◌∙◌, inl, inr, or_left, or_right, Spot, Shape, fold-roll-Shape, TypeExpr, TypeNode, TypeNode-F, roll-TypeNode, roll-TypeExpr, fold-TypeNode, fold-roll-TypeNode, fold-roll-TypeExpr, ind-TypeExpr, map-TypeNode, types_in, IsAmong, met, met_node, met_step, Found, Written, node_found, written_step, written_of, type_by}
use Rattle.std.specs.Prelude.{◌⊎◌}
use Rattle.epl_values.specs.declared.shape.Shape.TheVariants as shape
use Rattle.epl_values.specs.declared.shape.Shape.TheOpen as layer
use Rattle.epl_tree.specs.declared.types.TypeNode.TheOpen as node
use Rattle.event_types.specs.Types.{Form, IntegerForm, BooleanForm, TextForm, SequenceForm, DictionaryForm, EventForm, ContextForm, ListenerForm, form_step, form_of}
use Rattle.type_table.specs.Types.{event_shape as found_shape}

-- ---- shapes as plain data

form_integer : form_of shape.Integer ≡ IntegerForm
form_integer = ap form_of (sym shape.rolls-Integer) ∙ fold-roll-Shape Form form_step layer.Integer

form_boolean : form_of shape.Boolean ≡ BooleanForm
form_boolean = ap form_of (sym shape.rolls-Boolean) ∙ fold-roll-Shape Form form_step layer.Boolean

form_text : form_of shape.Text ≡ TextForm
form_text = ap form_of (sym shape.rolls-Text) ∙ fold-roll-Shape Form form_step layer.Text

form_context : form_of shape.Context ≡ ContextForm
form_context = ap form_of (sym shape.rolls-Context) ∙ fold-roll-Shape Form form_step layer.Context

form_listener : form_of shape.Listener ≡ ListenerForm
form_listener = ap form_of (sym shape.rolls-Listener) ∙ fold-roll-Shape Form form_step layer.Listener

form_event : (n : ℕ) → form_of (shape.Event n) ≡ EventForm n
form_event n = ap form_of (sym (shape.rolls-Event n)) ∙ fold-roll-Shape Form form_step (layer.Event n)

form_sequence : (s : Shape) → form_of (shape.Sequence s) ≡ SequenceForm (form_of s)
form_sequence s = ap form_of (sym (shape.rolls-Sequence s)) ∙ fold-roll-Shape Form form_step (layer.Sequence s)

form_dictionary : (key value : Shape) → form_of (shape.Dictionary key value) ≡ DictionaryForm (form_of key) (form_of value)
form_dictionary key value = ap form_of (sym (shape.rolls-Dictionary key value)) ∙ fold-roll-Shape Form form_step (layer.Dictionary key value)

-- a number of two lists is in one of them
pub among_both : (k : ℕ) (xs ys : List ℕ) → IsAmong k (xs ++ ys) → IsAmong k xs ⊎ IsAmong k ys
among_both k [] ys h = inr h
among_both k (x ∷ xs) ys (inl e) = inl (inl e)
among_both k (x ∷ xs) ys (inr h) = elim (among_both k xs ys h) [ inl a ↦ inl (inr a) | inr b ↦ inr b ]

-- a number among those of a form that is known
among_of : (k : ℕ) (s : Shape) (form : Form) → form_of s ≡ form → IsAmong k (types_in (form_of s)) → IsAmong k (types_in form)
among_of k s form is h = subst (λ f. IsAmong k (types_in f)) is h

-- ---- a name with a number that is met in a type

module _ (number_of : List ℕ → Option ℕ) where
  -- a name that stands for this number, wherever it is met
  pub record MetBy (k : ℕ) (Met : (Bool → (List ℕ → Bool) → Type 0)) : Type 0 where
    pub name : List ℕ
    pub number : ℕ
    pub found : number_of name ≡ Some number
    pub is : k ≡ min 65535 number
    pub met : (link : Bool) (event : List ℕ → Bool) → event name ≡ true → Met link event

  abbrev node_at : TypeNode → Spot → Found Shape
  node_at = fold-TypeNode (Spot → Found Shape) Written (node_found number_of) (written_step number_of)

  abbrev met_at : Bool → (List ℕ → Bool) → TypeNode → Bool
  met_at link event = fold-TypeNode Bool Bool (met_node link event) (met_step link event)

  abbrev NodeMeets : TypeNode → Type 0
  NodeMeets n = (spot : Spot) (k : ℕ) → IsAmong k (types_in (form_of (node_at n spot).part)) → MetBy k (λ link event. met_at link event n ≡ true)

  abbrev TypeMeets : TypeExpr → Type 0
  TypeMeets t = (k : ℕ) → IsAmong k (types_in (form_of (written_of number_of t).found.part)) → MetBy k (λ link event. met link event t ≡ true)

  event_meets : (k : ℕ) (spot : Spot) (name : List ℕ) (o : Option ℕ) → number_of name ≡ o → IsAmong k (types_in (form_of (found_shape spot o).part)) → MetBy k (λ link event. event name ≡ true)
  event_meets k spot name (Some n) is h = by (among_of k (shape.Event (min 65535 n)) (EventForm (min 65535 n)) (form_event (min 65535 n)) h)
    where
      by : (k ≡ min 65535 n) ⊎ ⊥ → MetBy k (λ link event. event name ≡ true)
      by (inl e) = record { name = name; number = n; found = is; is = e; met = λ link event yes. yes }
      by (inr none) = absurd none
  event_meets k spot name None is h = absurd (among_of k shape.Integer IntegerForm form_integer h)

  node_meets : (y : TypeNode-F ((n : TypeNode) × NodeMeets n) ((t : TypeExpr) × TypeMeets t)) (spot : Spot) (k : ℕ)
      → IsAmong k (types_in (form_of (node_found number_of (map-TypeNode TypeNode TypeExpr (Spot → Found Shape) Written node_at (written_of number_of) (map-TypeNode ((n : TypeNode) × NodeMeets n) ((t : TypeExpr) × TypeMeets t) TypeNode TypeExpr (λ e. e.0) (λ e. e.0) y)) spot).part))
      → MetBy k (λ link event. met_node link event (map-TypeNode TypeNode TypeExpr Bool Bool (met_at link event) (met link event) (map-TypeNode ((n : TypeNode) × NodeMeets n) ((t : TypeExpr) × TypeMeets t) TypeNode TypeExpr (λ e. e.0) (λ e. e.0) y)) ≡ true)
  node_meets node.Integer spot k h = absurd (among_of k shape.Integer IntegerForm form_integer h)
  node_meets node.Boolean spot k h = absurd (among_of k shape.Boolean BooleanForm form_boolean h)
  node_meets node.Text spot k h = absurd (among_of k shape.Text TextForm form_text h)
  node_meets node.Context spot k h = absurd (among_of k shape.Context ContextForm form_context h)
  node_meets node.Listener spot k h = absurd (among_of k shape.Listener ListenerForm form_listener h)
  node_meets (node.Named name) spot k h = event_meets k spot name (number_of name) refl h
  node_meets (node.Sequence item) spot k h =
      let one = item.1 k (among_of k (shape.Sequence (written_of number_of item.0).found.part) (SequenceForm (form_of (written_of number_of item.0).found.part)) (form_sequence _) h) in
      record { name = one.name; number = one.number; found = one.found; is = one.is; met = one.met }
  node_meets (node.Dictionary key value) spot k h =
      by (among_both k _ _ (among_of k (shape.Dictionary (written_of number_of key.0).found.part (written_of number_of value.0).found.part) (DictionaryForm (form_of (written_of number_of key.0).found.part) (form_of (written_of number_of value.0).found.part)) (form_dictionary _ _) h))
    where
      by : IsAmong k (types_in (form_of (written_of number_of key.0).found.part)) ⊎ IsAmong k (types_in (form_of (written_of number_of value.0).found.part)) → MetBy k (λ link event. (met link event key.0 || met link event value.0) ≡ true)
      by (inl a) = let one = key.1 k a in record { name = one.name; number = one.number; found = one.found; is = one.is; met = λ link event yes. or_left _ _ (one.met link event yes) }
      by (inr b) = let one = value.1 k b in record { name = one.name; number = one.number; found = one.found; is = one.is; met = λ link event yes. or_right _ _ (one.met link event yes) }

  type_meets : (t : TypeExpr) → TypeMeets t
  type_meets = ind-TypeExpr NodeMeets TypeMeets
      (λ x y is. subst (λ d. NodeMeets (roll-TypeNode d)) is (λ spot k h.
      let one = node_meets y spot k (subst (λ (g : Spot → Found Shape). IsAmong k (types_in (form_of (g spot).part))) (fold-roll-TypeNode (Spot → Found Shape) Written (node_found number_of) (written_step number_of) _) h) in
      record { name = one.name; number = one.number; found = one.found; is = one.is; met = λ link event yes. fold-roll-TypeNode Bool Bool (met_node link event) (met_step link event) _ ∙ one.met link event yes }))
      (λ x y is. subst (λ d. TypeMeets (roll-TypeExpr d)) is (λ k h.
      let one = y.node.1 y.spot k (subst (λ (w : Written). IsAmong k (types_in (form_of w.found.part))) (fold-roll-TypeExpr (Spot → Found Shape) Written (node_found number_of) (written_step number_of) _) h) in
      record { name = one.name; number = one.number; found = one.found; is = one.is; met = λ link event yes. fold-roll-TypeExpr Bool Bool (met_node link event) (met_step link event) _ ∙ one.met link event yes }))

  -- an event type in a shape, and its name in the type
  pub among_met : (t : TypeExpr) (k : ℕ) → IsAmong k (types_in (form_of (type_by number_of t).part)) → MetBy k (λ link event. met link event t ≡ true)
  among_met t k h = type_meets t k h
