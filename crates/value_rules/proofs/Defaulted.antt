-- The default of a shape has the shape.
use Rattle.value_rules.proofs.Common.{ℕ, zero, suc, List, [], length, map, true, false, Some, None, refl, sym, ap, ◌∙◌, arith, inl, inr, AllByRecursion, slice_get, none-some, Shape, out-Shape, EventShape, Value, default_of, event_fits, fits}
use Rattle.std.proofs.Common.{◌≡◌, ◌<◌, ◌∷◌, pos, Option}
use Rattle.std.proofs.lemmas.Bool.{eq-eqb}
use Rattle.std.proofs.lemmas.Option.{slice_get_cases}
use Rattle.epl_values.specs.declared.shape.Shape.{Shape-F, map-Shape, fold_out-Shape}
use Rattle.epl_values.specs.declared.shape.Shape.TheOpen as layer
use Rattle.epl_values.specs.declared.shape.Field.{Field}
use Rattle.epl_values.specs.declared.value.Value.TheOpen as part
use Rattle.event_types.specs.Types.{Form, form_step, form_of, types_in, types_held, fields_of, AreTypes, HasKnownFields, HasNoCycle}
use Rattle.value_rules.specs.Defaults.{default_step, default_by, default_event}
use Rattle.value_rules.specs.Shapes.{all_fit, has}
use Rattle.event_types.proofs.Depths.{Enough, deep-enough, fields-enough, fields-known}
use Rattle.value_rules.proofs.Having.{has-integer, has-boolean, has-text, has-sequence, has-dictionary, has-event, has-no_context, has-listener}

default-by : (event : ℕ → Value) (s : Shape) (l : Shape-F Shape) → out-Shape s ≡ l → default_by event s ≡ default_step event (map-Shape Shape Value (default_by event) l)
default-by event s l e = fold_out-Shape Value (default_step event) s ∙ ap (λ x. default_step event (map-Shape Shape Value (default_by event) x)) e

form-by : (s : Shape) (l : Shape-F Shape) → out-Shape s ≡ l → form_of s ≡ form_step (map-Shape Shape Form form_of l)
form-by s l e = fold_out-Shape Form form_step s ∙ ap (λ x. form_step (map-Shape Shape Form form_of x)) e

-- events in it have their shapes
abbrev pub EventsHave : List EventShape → (ℕ → Value) → List ℕ → Type 0
EventsHave types event ns = AllByRecursion (λ n. (s : Shape) → out-Shape s ≡ layer.Event n → has types (event n) s ≡ true) ns

layer-has : (types : List EventShape) (event : ℕ → Value) (s : Shape) (l : Shape-F Shape) → out-Shape s ≡ l → EventsHave types event (types_in (form_step (map-Shape Shape Form form_of l)))
    → has types (default_step event (map-Shape Shape Value (default_by event) l)) s ≡ true
layer-has types event s layer.Integer e have = has-integer types (pos 0) s ∙ ap (fits types (part.Integer (pos 0))) e
layer-has types event s layer.Boolean e have = has-boolean types false s ∙ ap (fits types (part.Boolean false)) e
layer-has types event s layer.Text e have = has-text types [] s ∙ ap (fits types (part.Text [])) e
layer-has types event s (layer.Sequence x) e have = has-sequence types [] s ∙ ap (fits types (part.Sequence [])) e
layer-has types event s (layer.Dictionary k x) e have = has-dictionary types [] s ∙ ap (fits types (part.Dictionary [])) e
layer-has types event s (layer.Event n) e have = have.0 s e
layer-has types event s layer.Context e have = has-no_context types s ∙ ap (fits types part.NoContext) e
layer-has types event s layer.Listener e have = has-listener types 0 s ∙ ap (fits types (part.Listener 0)) e

shape-has : (types : List EventShape) (event : ℕ → Value) (s : Shape) → EventsHave types event (types_in (form_of s)) → has types (default_by event s) s ≡ true
shape-has types event s have =
    ap (λ v. has types v s) (default-by event s (out-Shape s) refl) ∙ layer-has types event s (out-Shape s) refl (rw (← form-by s (out-Shape s) refl) have)

fields-have : (types : List EventShape) (event : ℕ → Value) (fields : List Field) → AllByRecursion (λ f. EventsHave types event (types_in (form_of f.shape))) fields
    → all_fit (map (has types) (map (λ field. default_by event field.shape) fields)) (map (λ field. field.shape) fields) ≡ true
fields-have types event [] a = refl
fields-have types event (f ∷ fs) a = rw (shape-has types event f.shape a.0, fields-have types event fs a.1) refl

all-shown : {A : Type 0} (P Q R : A → Type 0) (xs : List A) → ((x : A) → P x → Q x → R x) → AllByRecursion P xs → AllByRecursion Q xs → AllByRecursion R xs
all-shown P Q R [] f p q = tt
all-shown P Q R (x ∷ xs) f p q = (f x p.0 q.0, all-shown P Q R xs f p.1 q.1)

-- events nested so deep have their shapes
abbrev pub Given : ℕ → List EventShape → Type 0
Given depth types = (ns : List ℕ) → Enough (suc depth) types ns → AreTypes types ns → EventsHave types (default_event depth types) ns

numbers-have : (types : List EventShape) (depth : ℕ) → ((n : ℕ) → Enough depth types (types_held types n) → n < length types → (s : Shape) → out-Shape s ≡ layer.Event n → has types (default_event depth types n) s ≡ true) → Given depth types
numbers-have types depth one [] enough are = tt
numbers-have types depth one (n ∷ ns) enough are =
    (one n (enough n (inl refl)) are.0, numbers-have types depth one ns (λ k h. enough k (inr h)) are.1)

-- the fields of an event
event-fields : (types : List EventShape) (depth n : ℕ) (o : Option EventShape) → slice_get types n ≡ o → n < length types
    → AllByRecursion (λ f. EventsHave types (default_event depth types) (types_in (form_of f.shape))) (fields_of o)
    → event_fits (map (has types) (map (λ field. default_by (default_event depth types) field.shape) (fields_of o))) o ≡ true
event-fields types depth n None e lt a =
    elim ((slice_get_cases types n).1) [ inl h ↦ absurd (none-some _ (sym e ∙ h.2)) | inr h ↦ absurd (omega (arith, h.0)) ]
event-fields types depth n (Some event) e lt a = fields-have types (default_event depth types) event.fields a

event-has : (types : List EventShape) → HasKnownFields types → (depth n : ℕ) → Enough depth types (types_held types n) → n < length types → (s : Shape) → out-Shape s ≡ layer.Event n → has types (default_event depth types n) s ≡ true
event-has types known zero n enough lt s e = absurd enough
event-has types known (suc depth) n enough lt s e =
    let given : Given depth types = numbers-have types depth (event-has types known depth) in
    let parts = all-shown (λ f. Enough (suc depth) types (types_in (form_of f.shape))) (λ f. AreTypes types (types_in (form_of f.shape))) (λ f. EventsHave types (default_event depth types) (types_in (form_of f.shape))) (fields_of (slice_get types n))
    (λ f p q. given (types_in (form_of f.shape)) p q) (fields-enough (suc depth) types (fields_of (slice_get types n)) enough) (fields-known types (fields_of (slice_get types n)) (known n)) in
    has-event types n (map (λ field. default_by (default_event depth types) field.shape) (fields_of (slice_get types n))) s
    ∙ ap (fits types (part.Event n (map (has types) (map (λ field. default_by (default_event depth types) field.shape) (fields_of (slice_get types n)))))) e
    ∙ rw (eq-eqb n n refl, event-fields types depth n (slice_get types n) refl lt parts) refl

-- where event types are known and none contains itself, the default of a shape over them has that shape
pub default_has : (types : List EventShape) (s : Shape) → HasKnownFields types → HasNoCycle types → AreTypes types (types_in (form_of s)) → has types (default_of types s) s ≡ true
default_has types s known none are =
    shape-has types (default_event (length types) types) s (numbers-have types (length types) (event-has types known (length types)) (types_in (form_of s)) (deep-enough types (types_in (form_of s)) known none are) are)

-- a shape without event types needs nothing of them
pub default_has-plain : (types : List EventShape) (s : Shape) → types_in (form_of s) ≡ [] → has types (default_of types s) s ≡ true
default_has-plain types s e = shape-has types (default_event (length types) types) s (rw e tt)
