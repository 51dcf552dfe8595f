-- The parts of a text, one by one.
use Rattle.evt_text.proofs.Common.{ℕ, List, [], Option, Some, None, refl, sym, ap, inl, inr, option_map, eqb-true, ne_eqb, behind_sign, behind_name}
use Rattle.std.proofs.Common.{◌≡◌, ◌∷◌, ◌++◌, ◌==◌, ◌≢◌, eq-eqb, Bor, MatchOption}
use Rattle.evt_text.proofs.Cases.{chosen}

pub behind_sign-at : (sign : ℕ) (rest : List ℕ) → behind_sign sign (sign ∷ rest) ≡ Some rest
behind_sign-at sign rest = rw (eq-eqb sign sign refl) refl

pub behind_sign-none : (sign : ℕ) (text : List ℕ) → ((rest : List ℕ) → text ≢ sign ∷ rest) → behind_sign sign text ≡ None
behind_sign-none sign [] h = refl
behind_sign-none sign (b ∷ bs) h = rw (ne_eqb b sign (λ e. h bs (ap (λ x. x ∷ bs) e))) refl

pub behind_sign-is : (sign : ℕ) (text rest : List ℕ) → behind_sign sign text ≡ Some rest → text ≡ sign ∷ rest
behind_sign-is sign [] rest e = absurd (cc)
behind_sign-is sign (b ∷ bs) rest e = elim (chosen (b == sign) _ _ _ e) [ inl h ↦ (let k = eqb-true b sign h.0 in cc) | inr h ↦ absurd (let k = h.1 in cc) ]

pub behind_sign-cases : (sign : ℕ) (text : List ℕ) (r : Option (Bor (List ℕ))) → MatchOption r ((rest : List ℕ) → text ≢ sign ∷ rest) (λ x. text ≡ sign ∷ x.now)
    → option_map (λ x. x.now) r ≡ behind_sign sign text
behind_sign-cases sign text None h = sym (behind_sign-none sign text h)
behind_sign-cases sign text (Some x) h = rw (h, behind_sign-at) refl

pub behind_name-at : (name rest : List ℕ) → behind_name name (name ++ rest) ≡ Some rest
behind_name-at [] rest = refl
behind_name-at (n ∷ ns) rest = rw (eq-eqb n n refl, behind_name-at ns rest) refl

pub behind_name-is : (name text rest : List ℕ) → behind_name name text ≡ Some rest → text ≡ name ++ rest
behind_name-is [] text rest e = cc
behind_name-is (n ∷ ns) [] rest e = absurd (cc)
behind_name-is (n ∷ ns) (b ∷ bs) rest e =
    elim (chosen (b == n) _ _ _ e) [ inl h ↦ (let k = eqb-true b n h.0 in let more = behind_name-is ns bs rest h.1 in cc) | inr h ↦ absurd (let k = h.1 in cc) ]

pub behind_name-none : (name text : List ℕ) (read : Option (List ℕ)) → behind_name name text ≡ read → ((rest : List ℕ) → text ≢ name ++ rest) → read ≡ None
behind_name-none name text None e h = refl
behind_name-none name text (Some rest) e h = absurd (h rest (behind_name-is name text rest e))
