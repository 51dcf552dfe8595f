-- What an expression answers at its place, where no fault is found.
use Rattle.std.proofs.Common.{◌≡◌, ◌&&◌, ◌||◌, ◌∷◌, ◌++◌, if◌then◌else◌}
use Rattle.program_laws.proofs.Common.{ℕ, Bool, true, false, not, [], Option, Some, None, refl, sym, ap, ◌∙◌, true≢false, and_parts, and_from, Spot, Shape, roll-TypedExpr, TypedNode, same, stands, Names, checked, holds, shape_of, may_stand, is_of, Gives, Root, Judged, Demand, Wish, Statement, Value, Exactly, key_codes, misfit_codes, path_codes, given_codes, place_codes, change_code, astray_code, shape_given, judged, Part, codes_of, wish_stands, wished}
use Rattle.typed_program.specs.Shapes.{is_scalar}
use Rattle.expr_rules.specs.declared.placed.Gives.TheVariants as gives
use Rattle.expr_rules.specs.Places.{fits, is_key, void_codes, placed}
use Rattle.expr_rules.specs.Places.{stands as placed_stands}
use Rattle.program_laws.proofs.Exprs.Sure.{Sure, own_none, sure_sound, sure_node, sure_then}
use Rattle.program_laws.proofs.Exprs.Alike.{same_is}
use Rattle.program_laws.proofs.Exprs.Holding.{node_checked, holds_made, shape_made, holds_stands, is_of_known}
use Rattle.program_laws.proofs.Shapes.Lists.{no_both, no_unless}

pub record Answering (names : Names) (wish : Wish) (j : Judged) : Type 0 where
  pub whole : holds names j.typed ≡ true
  pub fit : wished wish (shape_of j.typed) ≡ true

-- a part that answers wherever it stands
pub record Answers (names : Names) (part : Part) : Type 0 where
  pub at_demand : (demand : Demand) → wish_stands names.types demand.wish ≡ true → Sure (Answering names demand.wish) (part demand)

-- what a node gives, where that is as it should be
pub record Given (names : Names) (n : TypedNode) (s : Option Shape) : Type 0 where
  pub there : may_stand names.types s ≡ true
  pub node_holds : node_checked names n s ≡ true

abbrev pub IsGiven : Names → TypedNode → Gives → Type 0
IsGiven names n gives.Nothing = Given names n None
IsGiven names n gives.Unknown = ⊥
IsGiven names n (gives.Value s) = Given names n (Some s)

key_clear : (k s : Bool) (code : ℕ) → (if k && not s then code ∷ [] else []) ≡ [] → (not k || s) ≡ true
key_clear true true code h = refl
key_clear true false code h = absurd (cc)
key_clear false s code h = refl

pub wished_value : (w : Wish) (s : Shape) → key_codes w s ≡ [] → misfit_codes w s ≡ [] → wished w (Some s) ≡ true
wished_value Statement s k m = refl
wished_value w s k m = and_from (fits w s) (not (is_key w) || is_scalar s) (no_unless (fits w s) 9 m) (key_clear (is_key w) (is_scalar s) 3 k)

pub wished_void : (w : Wish) → void_codes w ≡ [] → wished w None ≡ true
wished_void Statement h = refl
wished_void w h = absurd (cc)

-- a shape that is asked is the one that stands there
pub exact_known : (s : Shape) (o : Option Shape) → wished (Exactly s) o ≡ true → o ≡ Some s
exact_known s None h = absurd (true≢false (sym h))
exact_known s (Some t) h = ap Some (sym (same_is s t (and_parts (same s t) true h).0))

pub some_known : (o : Option Shape) → wished Value o ≡ true → (s : Shape) × (o ≡ Some s)
some_known None h = absurd (true≢false (sym h))
some_known (Some s) h = (s, refl)

module _ (names : Names) where
  given_clear : (demand : Demand) (root : Option Root) (g : Gives) (n : TypedNode) → IsGiven names n g → given_codes demand root g ≡ [] → Given names n (shape_given g) × (wished demand.wish (shape_given g) ≡ true)
  given_clear demand root gives.Nothing n i h = (i, wished_void demand.wish h)
  given_clear demand root gives.Unknown n i h = absurd i
  given_clear demand root (gives.Value s) n i h =
      let front = no_both (key_codes demand.wish s ++ misfit_codes demand.wish s) (path_codes demand.paths root s) h in
      let both = no_both (key_codes demand.wish s) (misfit_codes demand.wish s) front.0 in
      (i, wished_value demand.wish s both.0 both.1)

  pub placed_sure : (P : Option Shape → Type 0) (spot : Spot) (demand : Demand) (own : Option ℕ) (root : Option Root) (g : Gives) → (own ≡ None → given_codes demand root g ≡ [] → P (shape_given g)) → Sure P (placed spot demand own root g)
  unfolding placed
  placed_sure P spot demand own root g h =
      sure_node P spot (codes_of own ++ place_codes demand root g) (shape_given g) (λ none.
      let a = no_both (codes_of own) (place_codes demand root g) none in
      let b = no_both (codes_of (change_code demand.assigned root)) (codes_of (astray_code demand.astray) ++ given_codes demand root g) a.1 in
      let c = no_both (codes_of (astray_code demand.astray)) (given_codes demand root g) b.1 in
      h (own_none own a.0) c.1)

  -- what a node gives, and that it is what is asked
  abbrev pub Fitting : Demand → TypedNode → Option Shape → Type 0
  Fitting demand n s = Given names n s × (wished demand.wish s ≡ true)

  pub placed_given : (spot : Spot) (demand : Demand) (own : Option ℕ) (root : Option Root) (g : Gives) (n : TypedNode) → (own ≡ None → IsGiven names n g) → Sure (Fitting demand n) (placed spot demand own root g)
  placed_given spot demand own root g n h = placed_sure (Fitting demand n) spot demand own root g (λ none clear. given_clear demand root g n (h none) clear)

  pub made_answers : (w : Wish) (s : Option Shape) (n : TypedNode) (root : Option Root) (signed : Bool) → Given names n s → wished w s ≡ true → Answering names w (record { typed = roll-TypedExpr record { shape = s; node = n }; root = root; signed = signed })
  made_answers w s n root signed g k = record { whole = holds_made names s n g.there g.node_holds; fit = ap (λ (o : Option Shape). wished w o) (shape_made names s n) ∙ k }

  pub stands_sure : (spot : Spot) (demand : Demand) (own : Option ℕ) (root : Option Root) (g : Gives) (n : TypedNode) → (own ≡ None → IsGiven names n g) → Sure (Answering names demand.wish) (placed_stands spot demand own root g n)
  stands_sure spot demand own root g n h =
      sure_then (Fitting demand n) (Answering names demand.wish) (placed spot demand own root g) (judged root n) (placed_given spot demand own root g n h)
      (λ s f. sure_sound (Answering names demand.wish) (record { typed = roll-TypedExpr record { shape = s; node = n }; root = root; signed = false }) (made_answers demand.wish s n root false f.0 f.1))

  -- what is known of an expression that answers
  pub exact_shape : (s : Shape) (j : Judged) → Answering names (Exactly s) j → shape_of j.typed ≡ Some s
  exact_shape s j a = exact_known s (shape_of j.typed) a.fit

  pub exact_is_of : (s : Shape) (j : Judged) → Answering names (Exactly s) j → is_of s (checked names j.typed) ≡ true
  exact_is_of s j a = is_of_known names s j.typed a.whole (exact_shape s j a)

  pub value_shape : (j : Judged) → Answering names Value j → (s : Shape) × (shape_of j.typed ≡ Some s)
  value_shape j a = some_known (shape_of j.typed) a.fit

  pub shape_stands : (w : Wish) (j : Judged) (s : Shape) → Answering names w j → shape_of j.typed ≡ Some s → stands names.types s ≡ true
  shape_stands w j s a is = sym (ap (λ (o : Option Shape). may_stand names.types o) is) ∙ holds_stands names j.typed a.whole
