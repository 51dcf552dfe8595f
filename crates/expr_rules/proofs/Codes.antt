-- The least of the codes at a node.
use Rattle.std.proofs.Common.{◌≡◌, ℕ, List, [], ◌∷◌, ◌++◌, Some, None, Option, nat_le, if◌then◌else◌, refl, ap, sym, ◌∙◌, arith}
use Rattle.std.proofs.lemmas.Bool.Decides.{nat_tests}
use Rattle.span_text.specs.declared.spot.Spot.{Spot}
use Rattle.type_table.specs.declared.fault.Fault.{Fault}
use Rattle.type_table.specs.Found.{told, least, first_of}
use Rattle.expr_rules.specs.Then.{lowest, lower, codes_of}

smaller : ℕ → ℕ → ℕ
smaller a b = if nat_le a b then a else b

smaller_smaller : (a b x : ℕ) → smaller (smaller a b) x ≡ smaller a (smaller b x)
unfolding smaller
smaller_smaller a b x = grind (arith, nat_tests)

smaller_other : (a b : ℕ) → smaller a b ≡ (if nat_le b a then b else a)
unfolding smaller
smaller_other a b = grind (arith, nat_tests)

least_smaller : (a b : ℕ) (codes : List ℕ) → least (smaller a b) codes ≡ smaller a (least b codes)
unfolding smaller
least_smaller a b [] = refl
least_smaller a b (x ∷ codes) = ap (λ (c : ℕ). least c codes) (smaller_smaller a b x) ∙ least_smaller a (smaller b x) codes

least_lower : (code : ℕ) (next : ℕ) (codes : List ℕ) → least code (next ∷ codes) ≡ (if nat_le (least next codes) code then least next codes else code)
unfolding smaller
least_lower code next codes = least_smaller code next codes ∙ smaller_other code (least next codes)

-- the least of a code and others
pub lower_codes : (own : Option ℕ) (codes : List ℕ) → lowest (codes_of own ++ codes) ≡ lower own (lowest codes)
lower_codes None codes = refl
lower_codes (Some code) [] = refl
lower_codes (Some code) (next ∷ codes) = ap Some (least_lower code next codes)

-- the least of three groups of codes
pub lowest_of : (change astray : Option ℕ) (codes : List ℕ) → lowest (codes_of change ++ (codes_of astray ++ codes)) ≡ lower change (lower astray (lowest codes))
lowest_of change astray codes = lower_codes change (codes_of astray ++ codes) ∙ ap (λ (o : Option ℕ). lower change o) (lower_codes astray codes)

pub told_none : (spot : Spot) (codes : List ℕ) → lowest codes ≡ None → told spot codes ≡ []
told_none spot [] h = refl
told_none spot (code ∷ codes) h = cc

told_least : (spot : Spot) (least_code code : ℕ) → Some least_code ≡ Some code → (let f : Fault = record { code = least_code; spot = spot } in f ∷ []) ≡ (let g : Fault = record { code = code; spot = spot } in g ∷ [])
told_least spot least_code code h = let e : least_code ≡ code = cc in ap (λ (c : ℕ). let f : Fault = record { code = c; spot = spot } in f ∷ []) e

pub told_some : (spot : Spot) (codes : List ℕ) (code : ℕ) → lowest codes ≡ Some code → first_of (told spot codes) ≡ Some (record { code = code; spot = spot })
told_some spot [] code h = cc
told_some spot (c ∷ codes) code h = ap first_of (told_least spot (least c codes) code h)

-- of a code and the least of others
pub told_lowest : (spot : Spot) (own seen : Option ℕ) (codes : List ℕ) (code : ℕ) → seen ≡ lowest codes → lower own seen ≡ Some code → first_of (told spot (codes_of own ++ codes)) ≡ Some (record { code = code; spot = spot })
told_lowest spot own seen codes code is some = told_some spot (codes_of own ++ codes) code (lower_codes own codes ∙ ap (λ (o : Option ℕ). lower own o) (sym is) ∙ some)

pub told_nothing : (spot : Spot) (own seen : Option ℕ) (codes : List ℕ) → seen ≡ lowest codes → lower own seen ≡ None → told spot (codes_of own ++ codes) ≡ []
told_nothing spot own seen codes is none = told_none spot (codes_of own ++ codes) (lower_codes own codes ∙ ap (λ (o : Option ℕ). lower own o) (sym is) ∙ none)

pub ruleset codes = (lower_codes, lowest_of, told_lowest, told_nothing)
