-- Methods keep the shapes of variables, and give values of the shapes of their signatures.
use Rattle.std.proofs.Common.{◌≡◌}
use Rattle.typed_runs.proofs.Common.{ℕ, Bool, true, false, not, List, Option, Some, None, sym, ap, subst, ◌∙◌, is_some, Shape, Shape-F, out-Shape, roll-Shape, roll-out-Shape, Value, Program, Method, Signature, cost_of, M, Fit, MayFit, integer_fits, boolean_fits, text_fits, Keeps}
use Rattle.std.specs.Prelude.{pos}
use Rattle.epl_values.specs.declared.shape.Shape.TheOpen as layer
use Rattle.epl_values.specs.declared.shape.Shape.TheVariants as shape
use Rattle.epl_values.specs.declared.value.Value.TheVariants as value
use Rattle.typed_program.specs.declared.expression.Method.TheVariants as method
use Rattle.typed_program.specs.Shapes.{is_scalar, holds_link}
use Rattle.typed_program.specs.Methods.{signature, of_layer, where_it}
use Rattle.body_meaning.specs.Values.{letters_of, characters, bounded, pairs_of}
use Rattle.body_meaning.specs.Paths.{at_key}
use Rattle.body_meaning.specs.Methods.{first, text_charged, value_charged, substring_charged, place_charged, change_lost, called}
use Rattle.value_shapes.proofs.Results.{bounded_fits, keys_fit, size_fits, place_of_fits}
use Rattle.typed_runs.proofs.Keeping.{Any, keeps_pure, keeps_given, keeps_charge, keeps_bind, keeps_seq}
use Rattle.typed_runs.proofs.Effecting.{keeps_quit}

-- ---- what methods give

-- what a known row gives
row_is : (known row : Signature) → Some known ≡ Some row → known.gives ≡ row.gives
row_is known row e = let same : known ≡ row = cc in ap (λ (r : Signature). r.gives) same

-- the same of one that only stands for some shapes
where_is : (b : Bool) (known row : Signature) → where_it b (Some known) ≡ Some row → known.gives ≡ row.gives
where_is true known row e = row_is known row e
where_is false known row e = cc

-- a text of each kind of value
text_row : (d : Shape-F Shape) (row : Signature) → of_layer d method.ToString ≡ Some row → Some shape.Text ≡ row.gives
text_row layer.Integer row e = row_is _ row e
text_row layer.Boolean row e = row_is _ row e
text_row (layer.Sequence item) row e = where_is (not (holds_link item)) _ row e
text_row (layer.Dictionary key item) row e = where_is (not (holds_link (shape.Dictionary key item))) _ row e
text_row (layer.Event n) row e = row_is _ row e
text_row d row e = cc

-- the length of a text
length_row : (d : Shape-F Shape) (row : Signature) → of_layer d method.Length ≡ Some row → Some shape.Integer ≡ row.gives
length_row layer.Text row e = row_is _ row e
length_row d row e = cc

-- a part of a text
substring_row : (d : Shape-F Shape) (row : Signature) → of_layer d method.Substring ≡ Some row → Some shape.Text ≡ row.gives
substring_row layer.Text row e = row_is _ row e
substring_row d row e = cc

-- the size of a collection
size_row : (d : Shape-F Shape) (row : Signature) → of_layer d method.Size ≡ Some row → Some shape.Integer ≡ row.gives
size_row (layer.Sequence item) row e = row_is _ row e
size_row (layer.Dictionary key item) row e = row_is _ row e
size_row d row e = cc

-- the place of an element
place_row : (d : Shape-F Shape) (row : Signature) → of_layer d method.IndexOf ≡ Some row → Some shape.Integer ≡ row.gives
place_row (layer.Sequence item) row e = where_is (is_scalar item) _ row e
place_row d row e = cc

-- whether a key is there
key_row : (d : Shape-F Shape) (row : Signature) → of_layer d method.HasKey ≡ Some row → Some shape.Boolean ≡ row.gives
key_row (layer.Dictionary key item) row e = row_is _ row e
key_row d row e = cc

-- the dictionary whose keys are told
keys_row : (d : Shape-F Shape) (row : Signature) → of_layer d method.Keys ≡ Some row → (key item : Shape) × (roll-Shape d ≡ shape.Dictionary key item) × (Some (shape.Sequence key) ≡ row.gives)
keys_row (layer.Dictionary key item) row e = (key, item, shape.rolls-Dictionary key item, row_is _ row e)
keys_row d row e = cc

-- a copy
clone_row : (d : Shape-F Shape) (row : Signature) → of_layer d method.Clone ≡ Some row → Some (roll-Shape d) ≡ row.gives
clone_row (layer.Sequence item) row e = ap Some (shape.rolls-Sequence item) ∙ row_is _ row e
clone_row (layer.Dictionary key item) row e = ap Some (shape.rolls-Dictionary key item) ∙ row_is _ row e
clone_row (layer.Event n) row e = ap Some (shape.rolls-Event n) ∙ row_is _ row e
clone_row d row e = cc

-- what changes its object gives nothing
append_row : (d : Shape-F Shape) (row : Signature) → of_layer d method.Append ≡ Some row → None ≡ row.gives
append_row (layer.Sequence item) row e = row_is _ row e
append_row d row e = cc

-- an element or entry less
remove_row : (d : Shape-F Shape) (row : Signature) → of_layer d method.Remove ≡ Some row → None ≡ row.gives
remove_row (layer.Sequence item) row e = row_is _ row e
remove_row (layer.Dictionary key item) row e = row_is _ row e
remove_row d row e = cc

-- no elements or entries
clear_row : (d : Shape-F Shape) (row : Signature) → of_layer d method.Clear ≡ Some row → None ≡ row.gives
clear_row (layer.Sequence item) row e = row_is _ row e
clear_row (layer.Dictionary key item) row e = row_is _ row e
clear_row d row e = cc

-- an entry more
add_row : (d : Shape-F Shape) (row : Signature) → of_layer d method.Add ≡ Some row → None ≡ row.gives
add_row (layer.Dictionary key item) row e = row_is _ row e
add_row d row e = cc

-- a listener that is quit
quit_row : (d : Shape-F Shape) (row : Signature) → of_layer d method.Quit ≡ Some row → None ≡ row.gives
quit_row layer.Listener row e = row_is _ row e
quit_row d row e = cc

-- ---- what methods do

-- a run that gives a value of this shape, if it is known
abbrev Gives : Program → ℕ → List Shape → Option Shape → M Value → Type 0
Gives program monitor room o m = Keeps program monitor room (λ w. MayFit program.types w o) m

module _ {program : Program} {monitor : ℕ} {room : List Shape} where
  -- a text that is charged
  pub keeps_text : (text : List ℕ) → Keeps program monitor room (λ v. Fit program.types v shape.Text) (text_charged text)
  unfolding text_charged
  keeps_text text = keeps_seq (keeps_charge _) (keeps_given (bounded text) (λ v h. bounded_fits program.types text v h))

  -- a value that is charged
  keeps_charged : {Q : Value → Type 0} (v : Value) → Q v → Keeps program monitor room Q (value_charged v)
  unfolding value_charged
  keeps_charged v h = keeps_seq (keeps_charge (cost_of v)) (keeps_pure v h)

  -- a part of a text that is charged
  keeps_substring : (v : Value) (arguments : List Value) → Keeps program monitor room (λ w. Fit program.types w shape.Text) (substring_charged v arguments)
  unfolding substring_charged
  keeps_substring v arguments = keeps_bind _ (keeps_given {Q = Any} _ (λ text h. tt)) (λ text h. keeps_charged (value.Text text) (text_fits program.types text))

  -- a place that is charged
  keeps_place : (v : Value) (arguments : List Value) → Keeps program monitor room (λ w. Fit program.types w shape.Integer) (place_charged v arguments)
  unfolding place_charged
  keeps_place v arguments = keeps_seq (keeps_charge (cost_of v)) (keeps_pure _ (place_of_fits program.types (first arguments) v))

  -- a change of a value that no variable holds
  keeps_lost : (m : Method) (arguments : List Value) (v : Value) → Keeps program monitor room Any (change_lost m arguments v)
  unfolding change_lost
  keeps_lost m arguments v = keeps_seq (keeps_given {Q = Any} _ (λ w h. tt)) (keeps_pure value.NoContext tt)

  -- a run whose value has the shape that a row gives
  valued : (m : M Value) (s : Shape) (o : Option Shape) → Some s ≡ o → Keeps program monitor room (λ w. Fit program.types w s) m → Gives program monitor room o m
  valued m s o is k = subst (λ (p : Option Shape). Gives program monitor room p m) is k

  -- a run whose row gives none
  void : (m : M Value) (o : Option Shape) → None ≡ o → Keeps program monitor room Any m → Gives program monitor room o m
  void m o is k = subst (λ (p : Option Shape). Gives program monitor room p m) is k

  -- a method of a value of this shape
  pub keeps_called : (m : Method) (arguments : List Value) (v : Value) (s : Shape) (row : Signature) → signature s m ≡ Some row → Fit program.types v s → Keeps program monitor room (λ w. MayFit program.types w row.gives) (called program.types m v arguments)
  unfolding signature
  keeps_called method.ToString arguments v s row e f = valued _ shape.Text row.gives (text_row (out-Shape s) row e) (keeps_text _)
  keeps_called method.Length arguments v s row e f = valued _ shape.Integer row.gives (length_row (out-Shape s) row e) (keeps_pure _ (integer_fits program.types (pos (characters (letters_of v)))))
  keeps_called method.Substring arguments v s row e f = valued _ shape.Text row.gives (substring_row (out-Shape s) row e) (keeps_substring v arguments)
  keeps_called method.Size arguments v s row e f = valued _ shape.Integer row.gives (size_row (out-Shape s) row e) (keeps_pure _ (size_fits program.types v))
  keeps_called method.IndexOf arguments v s row e f = valued _ shape.Integer row.gives (place_row (out-Shape s) row e) (keeps_place v arguments)
  keeps_called method.HasKey arguments v s row e f = valued _ shape.Boolean row.gives (key_row (out-Shape s) row e) (keeps_pure _ (boolean_fits program.types (is_some (at_key (first arguments) (pairs_of v)))))
  keeps_called method.Keys arguments v s row e f =
      let known = keys_row (out-Shape s) row e in
      valued _ (shape.Sequence known.0) row.gives known.3 (keeps_charged _ (keys_fit program.types v known.0 known.1 (subst (Fit program.types v) (sym (roll-out-Shape s) ∙ known.2) f)))
  keeps_called method.Clone arguments v s row e f = valued _ (roll-Shape (out-Shape s)) row.gives (clone_row (out-Shape s) row e) (keeps_charged v (subst (Fit program.types v) (sym (roll-out-Shape s)) f))
  keeps_called method.Quit arguments v s row e f = void _ row.gives (quit_row (out-Shape s) row e) (keeps_quit v)
  keeps_called method.Append arguments v s row e f = void _ row.gives (append_row (out-Shape s) row e) (keeps_lost method.Append arguments v)
  keeps_called method.Remove arguments v s row e f = void _ row.gives (remove_row (out-Shape s) row e) (keeps_lost method.Remove arguments v)
  keeps_called method.Clear arguments v s row e f = void _ row.gives (clear_row (out-Shape s) row e) (keeps_lost method.Clear arguments v)
  keeps_called method.Add arguments v s row e f = void _ row.gives (add_row (out-Shape s) row e) (keeps_lost method.Add arguments v)
