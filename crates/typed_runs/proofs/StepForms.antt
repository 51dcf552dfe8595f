-- The forms of steps behind values: fields, elements, entries, and methods.
use Rattle.std.proofs.Common.{◌≡◌, ◌∷◌}
use Rattle.typed_runs.proofs.Common.{ℕ, true, List, [], map, Option, Some, None, refl, sym, ap, subst, ◌∙◌, slice_get, option_map, AllZip, slice_get-map, Shape, Shape-F, out-Shape, EventShape, Value, Program, Method, same, Signature, Checked, Stepping, if_known, is_of, are_of, agrees, walks, fields_of, Move, M, all, Meant, Reach, values_of, Fit, AllFit, MayFit, StepsTo, Keeps}
use Rattle.epl_values.specs.declared.shape.Shape.TheOpen as layer
use Rattle.epl_values.specs.declared.shape.Shape.TheVariants as shape
use Rattle.epl_values.specs.declared.shape.Field.{Field}
use Rattle.typed_program.specs.declared.expression.Method.TheVariants as method
use Rattle.typed_program.specs.Methods.{signature}
use Rattle.typed_program.specs.Expressions.{field_shape, shape_in, fields_at, field_leads, item_leads, key_leads, method_leads}
use Rattle.body_meaning.specs.declared.run.Move.TheVariants as move
use Rattle.body_meaning.specs.Runs.{◌>>=◌, pure, given}
use Rattle.body_meaning.specs.Paths.{part}
use Rattle.body_meaning.specs.Methods.{called}
use Rattle.body_meaning.specs.Expressions.{change_by, item_move, key_move, reach_by}
use Rattle.value_shapes.proofs.Parts.{part_fits}
use Rattle.typed_runs.proofs.Keeping.{keeps_pure, keeps_given, keeps_bind}
use Rattle.typed_runs.proofs.Methods.{keeps_called}
use Rattle.typed_runs.proofs.Stepping.{KeepsStep, Walked, ChangeFits}
use Rattle.typed_runs.proofs.Sound.{Sound, sound_value, sound_values, known_is, known_some, agrees_is, left, right, told_of, keeps_values}

-- ---- where steps lead

-- the fields of an event type, under both names
same_fields : (o : Option EventShape) → fields_at o ≡ fields_of o
same_fields None = refl
same_fields (Some event) = refl

-- the shape of a field that is there
in_option : (o : Option Field) → option_map (λ (f : Field). f.shape) o ≡ shape_in o
in_option None = refl
in_option (Some f) = refl

-- the shape of a field
pub field_there : (types : List EventShape) (n i : ℕ) → slice_get (map (λ f. f.shape) (fields_of (slice_get types n))) i ≡ field_shape types n i
field_there types n i = slice_get-map (λ (f : Field). f.shape) (fields_of (slice_get types n)) i ∙ in_option (slice_get (fields_of (slice_get types n)) i) ∙ ap (λ (fs : List Field). shape_in (slice_get fs i)) (sym (same_fields (slice_get types n)))

-- a step to a field leads to its shape
field_steps : (types : List EventShape) (i : ℕ) (after : Option Shape) (d : Shape-F Shape) → field_leads types i after d ≡ true → (t : Shape) × (after ≡ Some t) × StepsTo types (move.Field i) d t
field_steps types i after (layer.Event n) h =
    let there = known_some (λ s. if_known (same s) after) (field_shape types n i) h in
    (there.0, known_is there.0 after there.2, field_there types n i ∙ there.1)
field_steps types i after d h = cc

-- a step to an element leads to the shape of elements
item_steps : (c : Checked) (after : Option Shape) (d : Shape-F Shape) → item_leads c after d ≡ true → (t : Shape) × (after ≡ Some t) × (d ≡ layer.Sequence t) × (is_of shape.Integer c ≡ true)
item_steps c after (layer.Sequence item) h = (item, known_is item after (right (is_of shape.Integer c) (if_known (same item) after) h), refl, left (is_of shape.Integer c) (if_known (same item) after) h)
item_steps c after d h = cc

-- a step to an entry leads to the shape of values
key_steps : (c : Checked) (after : Option Shape) (d : Shape-F Shape) → key_leads c after d ≡ true → (key t : Shape) × (after ≡ Some t) × (d ≡ layer.Dictionary key t) × (is_of key c ≡ true)
key_steps c after (layer.Dictionary key item) h = (key, item, known_is item after (right (is_of key c) (if_known (same item) after) h), refl, left (is_of key c) (if_known (same item) after) h)
key_steps c after d h = cc

module _ (program : Program) (monitor : ℕ) (room : List Shape) where
  -- what a step reaches
  reached : (to : Move) (v : Value) (s t : Shape) (after : Option Shape) → after ≡ Some t → StepsTo program.types to (out-Shape s) t → Fit program.types v s → Keeps program monitor room (λ w. MayFit program.types w after) (given (part to v))
  reached to v s t after is leads f = keeps_given (part to v) (λ w h. subst (MayFit program.types w) (sym is) (part_fits program.types to v w s t f leads h))

  -- a field
  pub field_form : (i : ℕ) (after : Option Shape) (s : Shape) → field_leads program.types i after (out-Shape s) ≡ true → KeepsStep program monitor room (record { from = λ v. given (part (move.Field i) v); move = Some (pure (move.Field i)); change = None }) s after
  field_form i after s h =
      let l = field_steps program.types i after (out-Shape s) h in
      record { reach = λ v f. reached (move.Field i) v s l.0 after l.1 l.2 f; leads = (l.0, l.1, keeps_pure (move.Field i) l.2); alters = tt }

  -- a step whose index or key is computed
  by_form : (m : Meant) (to : Value → Move) (Q : Value → Type 0) (s t : Shape) (after : Option Shape) → after ≡ Some t → Keeps program monitor room Q m.value → ((i : Value) → Q i → StepsTo program.types (to i) (out-Shape s) t) → KeepsStep program monitor room (reach_by m to) s after
  by_form m to Q s t after is k leads = record {
    reach = λ v f. keeps_bind _ k (λ i q. reached (to i) v s t after is (leads i q) f);
    leads = (t, is, keeps_bind _ k (λ i q. keeps_pure (to i) (leads i q)));
    alters = tt;
  }

  -- an element
  pub item_form : (c : Checked) (m : Meant) (after : Option Shape) (s : Shape) → Sound program monitor room c m → item_leads c after (out-Shape s) ≡ true → KeepsStep program monitor room (reach_by m item_move) s after
  item_form c m after s sound h =
      let l = item_steps c after (out-Shape s) h in
      by_form m item_move (λ i. Fit program.types i shape.Integer) s l.0 after l.1 (told_of program monitor room shape.Integer c m.value (sound_value program monitor room c m sound) l.3)
      (λ i q. subst (λ (d : Shape-F Shape). StepsTo program.types (item_move i) d l.0) (sym l.2) refl)

  -- an entry
  pub key_form : (c : Checked) (m : Meant) (after : Option Shape) (s : Shape) → Sound program monitor room c m → key_leads c after (out-Shape s) ≡ true → KeepsStep program monitor room (reach_by m key_move) s after
  key_form c m after s sound h =
      let l = key_steps c after (out-Shape s) h in
      by_form m key_move (λ i. Fit program.types i l.0) s l.1 after l.2 (told_of program monitor room l.0 c m.value (sound_value program monitor room c m sound) l.4)
      (λ i q. subst (λ (d : Shape-F Shape). StepsTo program.types (key_move i) d l.1) (sym l.3) (q, refl))

  -- the change that a method makes
  change_fits : (m : Method) (arguments : M (List Value)) (s : Shape) (row : Signature) → signature s m ≡ Some row → Keeps program monitor room (λ vs. AllFit program.types vs row.takes) arguments → ChangeFits program monitor room (change_by m arguments) s
  change_fits method.Append arguments s row e k = (row, e, k)
  change_fits method.Remove arguments s row e k = (row, e, k)
  change_fits method.Clear arguments s row e k = (row, e, k)
  change_fits method.Add arguments s row e k = (row, e, k)
  change_fits m arguments s row e k = tt

  -- a method
  pub method_form : (m : Method) (cs : List Checked) (es : List Meant) (after : Option Shape) (s : Shape) → AllZip (Sound program monitor room) cs es → if_known (method_leads cs after) (signature s m) ≡ true → KeepsStep program monitor room (record { from = λ v. all (values_of es) >>= (λ arguments. called program.types m v arguments); move = None; change = change_by m (all (values_of es)) }) s after
  method_form m cs es after s sound h =
      let row = known_some (method_leads cs after) (signature s m) h in
      let takes = keeps_values program monitor room row.0.takes cs (values_of es) (sound_values program monitor room cs es sound) (left (are_of row.0.takes cs) (agrees row.0.gives after) row.2) in
      let gives = agrees_is row.0.gives after (right (are_of row.0.takes cs) (agrees row.0.gives after) row.2) in
      record {
        reach = λ v f. keeps_bind _ takes (λ arguments q. subst (λ (o : Option Shape). Keeps program monitor room (λ w. MayFit program.types w o) (called program.types m v arguments)) gives (keeps_called m arguments v s row.0 row.1 f));
        leads = tt;
        alters = change_fits m (all (values_of es)) s row.0 row.1 takes;
      }

  -- ---- steps one behind another

  -- where a step leads on, it keeps the shapes of variables
  abbrev pub SoundStep : Stepping → Reach → Type 0
  SoundStep u r = (s : Shape) → u.leads s ≡ true → KeepsStep program monitor room r s u.shape

  -- a walk
  pub walked : (us : List Stepping) (rs : List Reach) (s t : Option Shape) → AllZip SoundStep us rs → walks s us t ≡ true → Walked program monitor room rs s t
  walked [] [] s t h w = agrees_is s t w
  walked [] (r ∷ rs) s t h w = absurd h
  walked (u ∷ us) [] s t h w = absurd h
  walked (u ∷ us) (r ∷ rs) None t h w = cc
  walked (u ∷ us) (r ∷ rs) (Some s) t h w = (u.shape, h.0 s (left (u.leads s) (walks u.shape us t) w), walked us rs u.shape t h.1 (right (u.leads s) (walks u.shape us t) w))
