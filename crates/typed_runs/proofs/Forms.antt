-- The forms of expressions: each keeps the shapes of variables and gives a value of its shape, where its parts do.
use Rattle.typed_runs.proofs.Common.{ℕ, inl, inr, Bool, true, false, not, List, [], map, Option, Some, None, refl, sym, ap, subst, ◌∙◌, slice_get, AllByRecursion, AllZip, list_all, or_cases, eqb-true, Shape, Shape-F, out-Shape, roll-Shape, roll-out-Shape, EventShape, Value, Value-F, out-Value, Pair, Operator, Program, Action, Variable, same, stands, Checked, Linked, Paired, Stepping, if_known, is_of, all_of, are_of, agrees, walks, gives, may_stand, fields_of, default_of, M, choose, all, truth_of, variable_in, Meant, Linking, Pairing, Reach, Calls, read, values_of, or_from, and_from, xor_from, links_from, entries_behind, Fit, AllFit, MayFit, integer_fits, boolean_fits, text_fits, same_is, Keeps}
use Rattle.std.proofs.Common.{◌≡◌, ◌⊎◌, ◌&&◌, ◌||◌, ◌==◌, ◌∷◌, ℤ}
use Rattle.epl_values.specs.declared.shape.Shape.TheOpen as layer
use Rattle.epl_values.specs.declared.shape.Shape.TheVariants as shape
use Rattle.epl_values.specs.declared.value.Value.TheOpen as value_layer
use Rattle.epl_values.specs.declared.value.Value.TheVariants as value
use Rattle.epl_tree.specs.declared.expression.Comparison.{Comparison}
use Rattle.typed_program.specs.Expressions.{may_compare, compares, links, is_add, truths, calls, makes, sequence_so, dictionary_so}
use Rattle.body_meaning.specs.Runs.{◌>>=◌, pure, given, two}
use Rattle.body_meaning.specs.Values.{is_text, is_text_in, negated, compared}
use Rattle.body_meaning.specs.Effects.{make_context, current}
use Rattle.body_meaning.specs.Expressions.{valued, operate, postfix, default_by}
use Rattle.value_shapes.proofs.Layers.{LayerFits, fit_out}
use Rattle.value_shapes.proofs.Made.{sequence_made, dictionary_made, event_made}
use Rattle.value_shapes.proofs.Results.{calculated_fits, negated_fits, compared_fits}
use Rattle.typed_runs.proofs.Keeping.{Any, keeps_pure, keeps_given, keeps_look, keeps_bind, keeps_as, keeps_two}
use Rattle.typed_runs.proofs.Chains.{keeps_or, keeps_and, keeps_xor, keeps_links, keeps_entries}
use Rattle.typed_runs.proofs.Methods.{keeps_text}
use Rattle.typed_runs.proofs.Effecting.{keeps_make_context, keeps_current}
use Rattle.typed_runs.proofs.Variables.{shape_at, variable_fits}
use Rattle.typed_runs.proofs.Stepping.{KeepsExpr, keeps_postfix}
use Rattle.typed_runs.proofs.StepForms.{SoundStep, walked}
use Rattle.typed_runs.proofs.Sound.{SoundValue, Sound, sound_value, sound_values, known_is, known_some, agrees_is, left, right, told_of, all_told, keeps_values, keeps_each}

-- ---- which values are texts

-- what fits a text is a text
text_layer : (types : List EventShape) (l : Value-F Value Pair) → LayerFits types l layer.Text → is_text_in l ≡ true
text_layer types (value_layer.Text t) f = refl
text_layer types l f = f.has

-- a value that fits a text is one
is_text_fit : (types : List EventShape) (v : Value) → Fit types v shape.Text → is_text v ≡ true
is_text_fit types v f = text_layer types (out-Value v) (subst (LayerFits types (out-Value v)) shape.outs-Text (fit_out types v shape.Text f))

-- what fits an integer is no text
integer_layer : (types : List EventShape) (l : Value-F Value Pair) → LayerFits types l layer.Integer → is_text_in l ≡ false
integer_layer types (value_layer.Text t) f = sym f.has
integer_layer types l f = refl

-- a value that fits an integer isn't one
no_text_fit : (types : List EventShape) (v : Value) → Fit types v shape.Integer → is_text v ≡ false
no_text_fit types v f = integer_layer types (out-Value v) (subst (LayerFits types (out-Value v)) shape.outs-Integer (fit_out types v shape.Integer f))

-- ---- shapes of collections

-- a sequence has the shape of its elements
sequence_layer : (cs : List Checked) (d : Shape-F Shape) → sequence_so cs d ≡ true → (item : Shape) × (roll-Shape d ≡ shape.Sequence item) × (all_of item cs ≡ true)
sequence_layer cs (layer.Sequence item) h = (item, shape.rolls-Sequence item, h)
sequence_layer cs d h = cc

-- a dictionary has the shapes of its keys and values
dictionary_layer : (ps : List Paired) (d : Shape-F Shape) → dictionary_so ps d ≡ true → (key item : Shape) × (roll-Shape d ≡ shape.Dictionary key item) × (list_all (λ p. is_of key p.key && is_of item p.value) ps ≡ true)
dictionary_layer ps (layer.Dictionary key item) h = (key, item, shape.rolls-Dictionary key item, h)
dictionary_layer ps d h = cc

module _ (program : Program) (monitor : ℕ) (room : List Shape) where
  -- a run that gives a value of this shape
  abbrev Of : Shape → M Value → Type 0
  Of s m = Keeps program monitor room (λ v. Fit program.types v s) m

  -- an expression of this shape, if it has one
  abbrev Expr : Meant → Option Shape → Type 0
  Expr m s = KeepsExpr program monitor room m s

  -- where it is as it should be, an expression is of its shape
  abbrev SoundHere : Checked → Meant → Type 0
  SoundHere c m = Sound program monitor room c m

  -- an expression that is no path
  pub valued_form : (m : M Value) (s : Option Shape) → Keeps program monitor room (λ v. MayFit program.types v s) m → Expr (valued m) s
  valued_form m s k = record { told = k; leads = tt; runs = keeps_as (λ v h. tt) k }

  -- one of this shape
  pub of_form : (m : M Value) (s : Shape) (o : Option Shape) → gives s o ≡ true → Of s m → Expr (valued m) o
  of_form m s o h k = subst (Expr (valued m)) (sym (known_is s o h)) (valued_form m (Some s) k)

  -- an integer
  pub integer_form : (n : ℤ) (o : Option Shape) → gives shape.Integer o ≡ true → Expr (valued (pure (value.Integer n))) o
  integer_form n o h = of_form _ shape.Integer o h (keeps_pure _ (integer_fits program.types n))

  -- a boolean
  pub boolean_form : (b : Bool) (o : Option Shape) → gives shape.Boolean o ≡ true → Expr (valued (pure (value.Boolean b))) o
  boolean_form b o h = of_form _ shape.Boolean o h (keeps_pure _ (boolean_fits program.types b))

  -- a text
  pub text_form : (t : List ℕ) (o : Option Shape) → gives shape.Text o ≡ true → Expr (valued (pure (value.Text t))) o
  text_form t o h = of_form _ shape.Text o h (keeps_pure _ (text_fits program.types t))

  -- a variable
  pub read_form : (x : Variable) (t : Shape) (o : Option Shape) → shape_at program monitor room x ≡ Some t → gives t o ≡ true → Expr (read x) o
  read_form x t o is h = subst (Expr (read x)) (sym (known_is t o h)) (record {
    told = keeps_look (variable_in x) (λ frame f. variable_fits program monitor room x t frame f is);
    leads = (t, t, is, refl, refl);
    runs = keeps_look (variable_in x) (λ frame f. tt);
  })

  -- ---- operators

  module _ (c : Checked) (m : Meant) (cs : List Checked) (ms : List Meant) (first : SoundHere c m) (rest : AllZip SoundHere cs ms) where
    -- an operator of booleans
    truths_form : (op : List (M Value) → Value → M Value) → ((ns : List (M Value)) (v : Value) → Fit program.types v shape.Boolean → AllByRecursion (Of shape.Boolean) ns → Of shape.Boolean (op ns v)) → (o : Option Shape) → if_known (λ t. truths t c cs) o ≡ true → Expr (valued (m.value >>= op (values_of ms))) o
    truths_form op keeps o h =
        let known = known_some (λ t. truths t c cs) o h in
        let all = right (same known.0 shape.Boolean) (all_of shape.Boolean (c ∷ cs)) known.2 in
        let is : known.0 ≡ shape.Boolean = same_is known.0 shape.Boolean (left (same known.0 shape.Boolean) (all_of shape.Boolean (c ∷ cs)) known.2) in
        let one = told_of program monitor room shape.Boolean c m.value (sound_value program monitor room c m first) (left (is_of shape.Boolean c) (all_of shape.Boolean cs) all) in
        let more = all_told program monitor room shape.Boolean cs (values_of ms) (sound_values program monitor room cs ms rest) (right (is_of shape.Boolean c) (all_of shape.Boolean cs) all) in
        subst (Expr (valued (m.value >>= op (values_of ms)))) (sym (known.1 ∙ ap Some is)) (valued_form _ (Some shape.Boolean) (keeps_bind _ one (λ v f. keeps (values_of ms) v f more)))

    -- `or`
    pub or_form : (o : Option Shape) → if_known (λ t. truths t c cs) o ≡ true → Expr (valued (m.value >>= or_from (values_of ms))) o
    or_form o h = truths_form or_from keeps_or o h

    -- `and`
    pub and_form : (o : Option Shape) → if_known (λ t. truths t c cs) o ≡ true → Expr (valued (m.value >>= and_from (values_of ms))) o
    and_form o h = truths_form and_from keeps_and o h

    -- `xor`
    pub xor_form : (o : Option Shape) → if_known (λ t. truths t c cs) o ≡ true → Expr (valued (m.value >>= xor_from (values_of ms))) o
    xor_form o h = truths_form xor_from (keeps_xor (boolean_fits program.types)) o h

  -- `not`
  pub not_form : (c : Checked) (m : Meant) → SoundHere c m → (o : Option Shape) → (gives shape.Boolean o && is_of shape.Boolean c) ≡ true → Expr (valued (m.value >>= (λ v. pure (value.Boolean (not (truth_of v)))))) o
  not_form c m sound o h = of_form _ shape.Boolean o (left (gives shape.Boolean o) (is_of shape.Boolean c) h)
      (keeps_bind _ (told_of program monitor room shape.Boolean c m.value (sound_value program monitor room c m sound) (right (gives shape.Boolean o) (is_of shape.Boolean c) h)) (λ v f. keeps_pure _ (boolean_fits program.types (not (truth_of v)))))

  -- a minus
  pub minus_form : (c : Checked) (m : Meant) → SoundHere c m → (o : Option Shape) → (gives shape.Integer o && is_of shape.Integer c) ≡ true → Expr (valued (m.value >>= (λ v. given (negated v)))) o
  minus_form c m sound o h = of_form _ shape.Integer o (left (gives shape.Integer o) (is_of shape.Integer c) h)
      (keeps_bind _ (told_of program monitor room shape.Integer c m.value (sound_value program monitor room c m sound) (right (gives shape.Integer o) (is_of shape.Integer c) h)) (λ v f. keeps_given _ (λ w k. negated_fits program.types v w k)))

  -- a comparison
  pub compare_form : (comparison : Comparison) (c d : Checked) (m n : Meant) → SoundHere c m → SoundHere d n → (o : Option Shape) → (gives shape.Boolean o && compares comparison c d) ≡ true → Expr (valued (two m.value n.value >>= (λ p. pure (compared comparison p.0 p.1)))) o
  compare_form comparison c d m n first second o h =
      let both = right (gives shape.Boolean o) (compares comparison c d) h in
      let one = keeps_as {R = Any} (λ v f. tt) (sound_value program monitor room c m first (left c.holds (if_known (λ s. may_compare comparison s && is_of s d) c.shape) both)) in
      let known = known_some (λ s. may_compare comparison s && is_of s d) c.shape (right c.holds (if_known (λ s. may_compare comparison s && is_of s d) c.shape) both) in
      let other = told_of program monitor room known.0 d n.value (sound_value program monitor room d n second) (right (may_compare comparison known.0) (is_of known.0 d) known.2) in
      of_form _ shape.Boolean o (left (gives shape.Boolean o) (compares comparison c d) h)
      (keeps_bind _ (keeps_two one other) (λ p q. keeps_pure _ (compared_fits program.types comparison p.0 p.1)))

  -- the first where the test holds
  choose_true : {A : Type 0} (Q : A → Type 0) (b : Bool) (x y : M A) → b ≡ true → Keeps program monitor room Q x → Keeps program monitor room Q (choose b x y)
  choose_true Q true x y h k = k
  choose_true Q false x y h k = cc

  -- the second where it doesn't
  choose_false : {A : Type 0} (Q : A → Type 0) (b : Bool) (x y : M A) → b ≡ false → Keeps program monitor room Q y → Keeps program monitor room Q (choose b x y)
  choose_false Q true x y h k = cc
  choose_false Q false x y h k = k

  -- integers are calculated
  integers_operate : (op : Operator) (v w : Value) → Fit program.types v shape.Integer → Fit program.types w shape.Integer → Of shape.Integer (operate op v w)
  unfolding operate
  integers_operate op v w f g = choose_false (λ u. Fit program.types u shape.Integer) (is_text v) _ _ (no_text_fit program.types v f) (keeps_given _ (λ u k. calculated_fits program.types op v w u k))

  -- texts are joined
  texts_operate : (op : Operator) (v w : Value) → Fit program.types v shape.Text → Fit program.types w shape.Text → Of shape.Text (operate op v w)
  unfolding operate
  texts_operate op v w f g = choose_true (λ u. Fit program.types u shape.Text) (is_text v) _ _ (is_text_fit program.types v f) (keeps_text _)

  -- an operator whose operand is as it should be
  abbrev pub SoundLink : Linked → Linking → Type 0
  SoundLink l k = SoundValue program monitor room l.operand k.operand

  -- operands of one shape
  operands_told : (s : Shape) (ls : List Linked) (ks : List Linking) → AllZip SoundLink ls ks → all_of s (map (λ l. l.operand) ls) ≡ true → AllByRecursion (λ k. Of s k.operand) ks
  operands_told s [] [] h a = tt
  operands_told s [] (k ∷ ks) h a = absurd h
  operands_told s (l ∷ ls) [] h a = absurd h
  operands_told s (l ∷ ls) (k ∷ ks) h a = (told_of program monitor room s l.operand k.operand h.0 (left (is_of s l.operand) (all_of s (map (λ l. l.operand) ls)) a), operands_told s ls ks h.1 (right (is_of s l.operand) (all_of s (map (λ l. l.operand) ls)) a))

  -- operators of one shape
  chain_form : (s t : Shape) (c : Checked) (m : Meant) (ls : List Linked) (ks : List Linking) → SoundHere c m → AllZip SoundLink ls ks → ((op : Operator) (v w : Value) → Fit program.types v s → Fit program.types w s → Of s (operate op v w)) → (same t s && all_of s (c ∷ map (λ l. l.operand) ls)) ≡ true → (o : Option Shape) → o ≡ Some t → Expr (valued (m.value >>= links_from ks)) o
  chain_form s t c m ls ks first rest step h o is =
      let all = right (same t s) (all_of s (c ∷ map (λ l. l.operand) ls)) h in
      let one = told_of program monitor room s c m.value (sound_value program monitor room c m first) (left (is_of s c) (all_of s (map (λ l. l.operand) ls)) all) in
      let more = operands_told s ls ks rest (right (is_of s c) (all_of s (map (λ l. l.operand) ls)) all) in
      subst (Expr (valued (m.value >>= links_from ks))) (sym (is ∙ ap Some (same_is t s (left (same t s) (all_of s (c ∷ map (λ l. l.operand) ls)) h))))
      (valued_form _ (Some s) (keeps_bind _ one (λ v f. keeps_links step ks v f more)))

  -- operators of integers or of texts
  links_either : (t : Shape) (c : Checked) (m : Meant) (ls : List Linked) (ks : List Linking) → SoundHere c m → AllZip SoundLink ls ks → (o : Option Shape) → o ≡ Some t → (((same t shape.Integer && all_of shape.Integer (c ∷ map (λ l. l.operand) ls)) ≡ true) ⊎ ((same t shape.Text && all_of shape.Text (c ∷ map (λ l. l.operand) ls) && list_all (λ l. is_add l.operator) ls) ≡ true)) → Expr (valued (m.value >>= links_from ks)) o
  links_either t c m ls ks first rest o is (inl h) = chain_form shape.Integer t c m ls ks first rest integers_operate h o is
  links_either t c m ls ks first rest o is (inr h) = chain_form shape.Text t c m ls ks first rest texts_operate (left (same t shape.Text && all_of shape.Text (c ∷ map (λ l. l.operand) ls)) (list_all (λ l. is_add l.operator) ls) h) o is

  -- sums and products
  pub links_form : (c : Checked) (m : Meant) (ls : List Linked) (ks : List Linking) → SoundHere c m → AllZip SoundLink ls ks → (o : Option Shape) → if_known (λ t. links t c ls) o ≡ true → Expr (valued (m.value >>= links_from ks)) o
  links_form c m ls ks first rest o h =
      let known = known_some (λ t. links t c ls) o h in
      links_either known.0 c m ls ks first rest o known.1 (or_cases _ _ known.2)

  -- ---- steps

  -- a value with steps behind it
  pub postfix_form : (c : Checked) (m : Meant) (us : List Stepping) (rs : List Reach) → SoundHere c m → AllZip (SoundStep program monitor room) us rs → (o : Option Shape) → (c.holds && walks c.shape us o) ≡ true → Expr (postfix m rs) o
  postfix_form c m us rs first rest o h = keeps_postfix program monitor room m rs c.shape o (first (left c.holds (walks c.shape us o) h)) (walked program monitor room us rs c.shape o rest (right c.holds (walks c.shape us o) h))

  -- ---- calls and literals

  -- a call of an action
  pub call_form : (call : Calls) (n : ℕ) (cs : List Checked) (ms : List Meant) → AllZip SoundHere cs ms → (o : Option Shape) (found : Option Action) → ((action : Action) → found ≡ Some action → action.monitor ≡ monitor → (vs : List Value) → AllFit program.types vs action.params → Keeps program monitor room (λ v. MayFit program.types v action.result) (call n vs)) → if_known (calls monitor cs o) found ≡ true → Expr (valued (all (values_of ms) >>= call n)) o
  call_form call n cs ms sound o found keeps h =
      let known = known_some (calls monitor cs o) found h in
      let action = known.0 in
      let front = left (action.monitor == monitor && are_of action.params cs) (agrees action.result o) known.2 in
      let is : action.result ≡ o = agrees_is action.result o (right (action.monitor == monitor && are_of action.params cs) (agrees action.result o) known.2) in
      let own : action.monitor ≡ monitor = eqb-true action.monitor monitor (left (action.monitor == monitor) (are_of action.params cs) front) in
      let arguments = keeps_values program monitor room action.params cs (values_of ms) (sound_values program monitor room cs ms sound) (right (action.monitor == monitor) (are_of action.params cs) front) in
      subst (Expr (valued (all (values_of ms) >>= call n))) is (valued_form _ action.result (keeps_bind _ arguments (λ vs fit. keeps action known.1 own vs fit)))

  -- an event
  pub event_form : (n : ℕ) (cs : List Checked) (ms : List Meant) → AllZip SoundHere cs ms → (o : Option Shape) → (gives (shape.Event n) o && if_known (makes cs) (slice_get program.types n)) ≡ true → Expr (valued (all (values_of ms) >>= (λ vs. pure (value.Event n vs)))) o
  event_form n cs ms sound o h =
      let known = known_some (makes cs) (slice_get program.types n) (right (gives (shape.Event n) o) (if_known (makes cs) (slice_get program.types n)) h) in
      let arguments = keeps_values program monitor room (map (λ f. f.shape) known.0.fields) cs (values_of ms) (sound_values program monitor room cs ms sound) known.2 in
      of_form _ (shape.Event n) o (left (gives (shape.Event n) o) (if_known (makes cs) (slice_get program.types n)) h)
      (keeps_bind _ arguments (λ vs fit. keeps_pure _ (event_made program.types n vs known.0 (subst (λ (e : Option EventShape). AllFit program.types vs (map (λ f. f.shape) (fields_of e))) (sym known.1) fit) known.1)))

  -- a sequence
  pub sequence_form : (cs : List Checked) (ms : List Meant) → AllZip SoundHere cs ms → (o : Option Shape) → if_known (λ t. sequence_so cs (out-Shape t)) o ≡ true → Expr (valued (all (values_of ms) >>= (λ vs. pure (value.Sequence vs)))) o
  sequence_form cs ms sound o h =
      let known = known_some (λ t. sequence_so cs (out-Shape t)) o h in
      let at = sequence_layer cs (out-Shape known.0) known.2 in
      let items = keeps_each program monitor room at.0 cs (values_of ms) (sound_values program monitor room cs ms sound) at.2 in
      subst (Expr (valued (all (values_of ms) >>= (λ vs. pure (value.Sequence vs))))) (sym (known.1 ∙ ap Some (sym (roll-out-Shape known.0) ∙ at.1)))
      (valued_form _ (Some (shape.Sequence at.0)) (keeps_bind _ items (λ vs fit. keeps_pure _ (sequence_made program.types vs at.0 fit))))

  -- an entry whose key and value are as they should be
  pub record SoundEntry (p : Paired) (q : Pairing) : Type 0 where
    pub key_sound : SoundValue program monitor room p.key q.key
    pub value_sound : SoundValue program monitor room p.value q.value

  -- entries of these shapes
  entries_told : (key item : Shape) (ps : List Paired) (qs : List Pairing) → AllZip SoundEntry ps qs → list_all (λ p. is_of key p.key && is_of item p.value) ps ≡ true → AllByRecursion (λ q. Of key q.key × Of item q.value) qs
  entries_told key item [] [] h a = tt
  entries_told key item [] (q ∷ qs) h a = absurd h
  entries_told key item (p ∷ ps) [] h a = absurd h
  entries_told key item (p ∷ ps) (q ∷ qs) h a =
      let one = left (is_of key p.key && is_of item p.value) (list_all (λ p. is_of key p.key && is_of item p.value) ps) a in
      ((told_of program monitor room key p.key q.key h.0.key_sound (left (is_of key p.key) (is_of item p.value) one), told_of program monitor room item p.value q.value h.0.value_sound (right (is_of key p.key) (is_of item p.value) one)), entries_told key item ps qs h.1 (right (is_of key p.key && is_of item p.value) (list_all (λ p. is_of key p.key && is_of item p.value) ps) a))

  -- a dictionary
  pub dictionary_form : (ps : List Paired) (qs : List Pairing) → AllZip SoundEntry ps qs → (o : Option Shape) → if_known (λ t. dictionary_so ps (out-Shape t)) o ≡ true → Expr (valued (entries_behind [] qs >>= (λ pairs. pure (value.Dictionary pairs)))) o
  dictionary_form ps qs sound o h =
      let known = known_some (λ t. dictionary_so ps (out-Shape t)) o h in
      let at = dictionary_layer ps (out-Shape known.0) known.2 in
      let entries = keeps_entries at.0 at.1 [] qs (tt, tt) (entries_told at.0 at.1 ps qs sound at.3) in
      subst (Expr (valued (entries_behind [] qs >>= (λ pairs. pure (value.Dictionary pairs))))) (sym (known.1 ∙ ap Some (sym (roll-out-Shape known.0) ∙ at.2)))
      (valued_form _ (Some (shape.Dictionary at.0 at.1)) (keeps_bind _ entries (λ pairs fit. keeps_pure _ (dictionary_made program.types pairs at.0 at.1 fit.0 fit.1))))

  -- what a shape begins with
  pub default_form : ((s : Shape) → stands program.types s ≡ true → Fit program.types (default_of program.types s) s) → (o : Option Shape) → may_stand program.types o ≡ true → if_known (λ t. true) o ≡ true → Expr (valued (pure (default_by program.types o))) o
  default_form fits None h k = cc
  default_form fits (Some s) h k = valued_form _ (Some s) (keeps_pure _ (fits s h))

  -- values of whatever shapes
  any_zip : (cs : List Checked) (ms : List (M Value)) → AllZip (SoundValue program monitor room) cs ms → (ss : List Shape) → are_of ss cs ≡ true → Keeps program monitor room Any (all ms)
  any_zip cs ms h ss k = keeps_as (λ v f. tt) (keeps_values program monitor room ss cs ms h k)

  -- the name of a context, alone or with whether it is public
  context_either : (cs : List Checked) (ms : List Meant) → AllZip SoundHere cs ms → ((are_of (shape.Text ∷ []) cs ≡ true) ⊎ (are_of (shape.Text ∷ shape.Boolean ∷ []) cs ≡ true)) → Keeps program monitor room Any (all (values_of ms))
  context_either cs ms sound (inl h) = any_zip cs (values_of ms) (sound_values program monitor room cs ms sound) (shape.Text ∷ []) h
  context_either cs ms sound (inr h) = any_zip cs (values_of ms) (sound_values program monitor room cs ms sound) (shape.Text ∷ shape.Boolean ∷ []) h

  -- a context
  pub context_form : (cs : List Checked) (ms : List Meant) → AllZip SoundHere cs ms → (o : Option Shape) → (gives shape.Context o && (are_of (shape.Text ∷ []) cs || are_of (shape.Text ∷ shape.Boolean ∷ []) cs)) ≡ true → Expr (valued (all (values_of ms) >>= make_context)) o
  context_form cs ms sound o h = of_form _ shape.Context o (left (gives shape.Context o) _ h) (keeps_bind _ (context_either cs ms sound (or_cases _ _ (right (gives shape.Context o) _ h))) (λ vs f. keeps_make_context vs))

  -- the context of the run
  pub current_form : (o : Option Shape) → gives shape.Context o ≡ true → Expr (valued current) o
  current_form o h = of_form _ shape.Context o h keeps_current
