-- Arguments have the shapes that are asked, where as many stand there.
use Rattle.std.proofs.Common.{◌≡◌, ◌+◌, ◌≤◌, ◌==◌, ◌∷◌, ◌++◌}
use Rattle.program_laws.proofs.Common.{ℕ, zero, suc, Bool, true, List, [], map, length, take, Option, Some, None, slice_get, refl, sym, ap, subst, ◌∙◌, true≢false, arith, list_all, AllByRecursion, and_parts, and_from, eqb-true, length_push, length-map, Shape, TypedExpr, stands, Names, checked, is_of, are_of, have, ParamHead, Paths, Arguments, Judged, Wish, Value, Exactly, asked_by, like, next_wish, argument_of, argument_found, arguments_found, no_arguments, count_code, param_wants, call_paths, items_of, typed_arguments, Part, wish_stands}
use Rattle.expr_rules.specs.Calls.{wish_at}
use Rattle.expr_rules.specs.Then.{and_then, through}
use Rattle.program_laws.proofs.Exprs.Sure.{Sure, sure_then, sure_sound, sure_through}
use Rattle.program_laws.proofs.Exprs.Answering.{Answering, Answers, exact_is_of}
use Rattle.program_laws.proofs.Shapes.Lists.{none_unless}

abbrev pub asked_shapes : List Shape → List (Option Shape)
asked_shapes shapes = map (λ s. Some s) shapes

-- ---- places of a list

pub slice_past : {A : Type 0} (xs : List A) (n : ℕ) → slice_get xs n ≡ None → length xs ≤ n
slice_past [] n h = omega arith
slice_past (x ∷ xs) zero h = absurd (cc)
slice_past (x ∷ xs) (suc n) h = let k = slice_past xs n h in omega arith

pub every_at : {A : Type 0} (p : A → Bool) (xs : List A) (n : ℕ) (x : A) → list_all p xs ≡ true → slice_get xs n ≡ Some x → p x ≡ true
every_at p [] n x all h = absurd (cc)
every_at p (y ∷ xs) zero x all h = let e : y ≡ x = cc in subst (λ z. p z ≡ true) e (and_parts (p y) (list_all p xs) all).0
every_at p (y ∷ xs) (suc n) x all h = every_at p xs n x (and_parts (p y) (list_all p xs) all).1 h

take_more : (xs : List Shape) (n : ℕ) (x : Shape) → slice_get xs n ≡ Some x → take (suc n) xs ≡ take n xs ++ x ∷ []
take_more [] n x h = absurd (cc)
take_more (y ∷ xs) zero x h = let e : y ≡ x = cc in ap (λ (z : Shape). z ∷ []) e
take_more (y ∷ xs) (suc n) x h = ap (λ (l : List Shape). y ∷ l) (take_more xs n x h)

take_whole : (xs : List Shape) → take (length xs) xs ≡ xs
take_whole [] = refl
take_whole (x ∷ xs) = ap (λ (l : List Shape). x ∷ l) (take_whole xs)

asked_at : (xs : List Shape) (n : ℕ) (o : Option Shape) → slice_get xs n ≡ o → wish_at (slice_get (asked_shapes xs) n) ≡ like o
asked_at [] n o h = ap like h
asked_at (x ∷ xs) zero o h = ap like h
asked_at (x ∷ xs) (suc n) o h = asked_at xs n o h

module _ (names : Names) where
  are_push : (done : List Shape) (items : List TypedExpr) (s : Shape) (e : TypedExpr) → are_of done (map (checked names) items) ≡ true → is_of s (checked names e) ≡ true → are_of (done ++ s ∷ []) (map (checked names) (items ++ e ∷ [])) ≡ true
  are_push [] [] s e h k = and_from (is_of s (checked names e)) true k refl
  are_push [] (x ∷ items) s e h k = absurd (true≢false (sym h))
  are_push (d ∷ done) [] s e h k = absurd (true≢false (sym h))
  are_push (d ∷ done) (x ∷ items) s e h k = let b = and_parts (is_of d (checked names x)) (are_of done (map (checked names) items)) h in and_from (is_of d (checked names x)) (are_of (done ++ s ∷ []) (map (checked names) (items ++ e ∷ []))) b.0 (are_push done items s e b.1 k)

  -- the arguments so far, of those that are asked
  pub record Taken (shapes : List Shape) (a : Arguments) : Type 0 where
    pub asked : a.wants ≡ asked_shapes shapes
    pub taken : length a.items ≤ length shapes → are_of (take (length a.items) shapes) (map (checked names) a.items) ≡ true

  pub taken_start : (shapes : List Shape) (permitted : Paths) (wants : List (Option Shape)) → wants ≡ asked_shapes shapes → Taken shapes (no_arguments permitted wants)
  taken_start shapes permitted wants is = record { asked = is; taken = λ le. refl }

  asked_next : (shapes : List Shape) (a : Arguments) (o : Option Shape) → Taken shapes a → slice_get shapes (length a.items) ≡ o → next_wish a ≡ like o
  asked_next shapes a o t at = ap (λ (w : List (Option Shape)). wish_at (slice_get w (length a.items))) t.asked ∙ asked_at shapes (length a.items) o at

  abbrev with_item : Arguments → Judged → Arguments
  with_item a j = record { wants = a.wants; paths = a.paths; items = a.items ++ j.typed ∷ [] }

  argument_then : (shapes : List Shape) (a : Arguments) (part : Part) (w : Wish) → Answers names part → next_wish a ≡ w → wish_stands names.types w ≡ true → ((j : Judged) → Answering names w j → Taken shapes (with_item a j)) → Sure (Taken shapes) (argument_found a part)
  argument_then shapes a part w p is stands next =
      subst (λ (v : Wish). Sure (Taken shapes) (and_then (part (asked_by v a.paths)) (argument_of a))) (sym is)
      (sure_then (Answering names w) (Taken shapes) (part (asked_by w a.paths)) (argument_of a) (p.at_demand (asked_by w a.paths) stands) (λ j b. sure_sound (Taken shapes) (with_item a j) (next j b)))

  past_taken : (shapes : List Shape) (a : Arguments) (j : Judged) → Taken shapes a → slice_get shapes (length a.items) ≡ None → Taken shapes (with_item a j)
  past_taken shapes a j t at = record { asked = t.asked; taken = λ le. absurd (let k = slice_past shapes (length a.items) at in let m = length_push a.items j.typed in omega arith) }

  next_taken : (shapes : List Shape) (a : Arguments) (j : Judged) (s : Shape) → Taken shapes a → slice_get shapes (length a.items) ≡ Some s → is_of s (checked names j.typed) ≡ true → Taken shapes (with_item a j)
  next_taken shapes a j s t at is = record {
    asked = t.asked;
    taken = λ le.
        let m = length_push a.items j.typed in
        let len : length (a.items ++ j.typed ∷ []) ≡ suc (length a.items) = omega arith in
        let before : length a.items ≤ length shapes = omega arith in
        ap (λ (n : ℕ). are_of (take n shapes) (map (checked names) (a.items ++ j.typed ∷ []))) len
        ∙ ap (λ (l : List Shape). are_of l (map (checked names) (a.items ++ j.typed ∷ []))) (take_more shapes (length a.items) s at)
        ∙ are_push (take (length a.items) shapes) a.items s j.typed (t.taken before) is;
  }

  argument_at : (shapes : List Shape) → list_all (stands names.types) shapes ≡ true → (a : Arguments) (part : Part) (o : Option Shape) → slice_get shapes (length a.items) ≡ o → Taken shapes a → Answers names part → Sure (Taken shapes) (argument_found a part)
  argument_at shapes all a part None at t p = argument_then shapes a part Value p (asked_next shapes a None t at) refl (λ j b. past_taken shapes a j t at)
  argument_at shapes all a part (Some s) at t p = argument_then shapes a part (Exactly s) p (asked_next shapes a (Some s) t at) (every_at (stands names.types) shapes (length a.items) s all at) (λ j b. next_taken shapes a j s t at (exact_is_of names s j b))

  pub arguments_sure : (shapes : List Shape) → list_all (stands names.types) shapes ≡ true → (start : Arguments) (parts : List Part) → AllByRecursion (Answers names) parts → Taken shapes start → Sure (Taken shapes) (arguments_found start parts)
  arguments_sure shapes all start parts each t = sure_through (Answers names) (Taken shapes) argument_found (λ a part i p. argument_at shapes all a part (slice_get shapes (length a.items)) refl i p) start parts each t

  pub taken_whole : (shapes : List Shape) (a : Arguments) → Taken shapes a → length a.items ≡ length shapes → are_of shapes (map (checked names) a.items) ≡ true
  taken_whole shapes a t len =
      ap (λ (l : List Shape). are_of l (map (checked names) a.items)) (sym (take_whole shapes) ∙ ap (λ (n : ℕ). take n shapes) (sym len))
      ∙ t.taken (omega arith)

  -- where no fault is found in their number, they are those that are asked
  pub taken_counted : (shapes : List Shape) (a : Arguments) → Taken shapes a → count_code a ≡ None → are_of shapes (map (checked names) a.items) ≡ true
  taken_counted shapes a t h =
      taken_whole shapes a t (eqb-true (length a.items) (length a.wants) (none_unless (length a.items == length a.wants) 8 h) ∙ ap length t.asked ∙ length-map shapes (λ s. Some s))

arguments_length : (start : Arguments) (parts : List Part) → length (arguments_found start parts).part.items ≡ length start.items + length parts
unfolding through and_then
arguments_length start [] = omega arith
arguments_length start (p ∷ parts) =
    let next = (argument_found start p).part in
    let more = arguments_length next parts in
    let m = length_push start.items (p (asked_by (next_wish start) start.paths)).part.typed in
    omega arith

-- arguments, each of the shape of its parameter, where as many stand as are asked
pub arguments_have : (names : Names) (is_call : Bool) (params : List ParamHead) (shapes : List Shape) (parts : List Part) → param_wants params ≡ asked_shapes shapes → list_all (stands names.types) shapes ≡ true → AllByRecursion (Answers names) parts → length parts ≡ length params → Sure (λ items. have names shapes items ≡ true) (typed_arguments is_call params parts)
arguments_have names is_call params shapes parts is all each len =
    let start = no_arguments (call_paths is_call) (param_wants params) in
    let count : length params ≡ length shapes = sym (length-map params (λ p. p.shape)) ∙ ap length is ∙ length-map shapes (λ s. Some s) in
    let taken = arguments_sure names shapes all start parts each (taken_start names shapes (call_paths is_call) (param_wants params) is) in
    sure_then (λ a. Taken names shapes a × (length a.items ≡ length parts)) (λ items. have names shapes items ≡ true) (arguments_found start parts) items_of
    (record { where_clear = λ h. (taken.where_clear h, (let l = arguments_length start parts in omega arith)) })
    (λ a t. sure_sound (λ items. have names shapes items ≡ true) a.items (taken_whole names shapes a t.0 (t.1 ∙ len ∙ count)))
