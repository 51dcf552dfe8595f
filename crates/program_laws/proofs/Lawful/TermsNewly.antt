-- The names that a part of an event expression binds: none of them was bound in front, and none at all under a `not`.
use Rattle.std.proofs.Common.{◌≡◌, ◌||◌, ◌∷◌, ◌++◌, if◌then◌else◌}
use Rattle.program_laws.proofs.Common.{ℕ, Bool, true, false, List, [], length, Option, refl, sym, ap, ◌∙◌, true≢false, append_assoc, bytes_eq, list_any-append, bytes_eq-Decides, or_parts, append-nil, Name, Scope, told, seen_of, Sofar, is_among, is_taken, is_full, name_codes, with_name, Went, went}
use Rattle.std.specs.Prelude.{is_some}
use Rattle.listener_check.specs.Limits.{short}
use Rattle.listener_check.specs.Templates.{name_read}
use Rattle.program_laws.proofs.Shapes.Lists.{no_both, no_told, no_if}
use Rattle.program_laws.proofs.Terms.Thus.{Thus, thus_went, thus_behind}
use Rattle.program_laws.proofs.Lawful.TermsBrought.{or_case}

-- two facts of one part
pub thus_both : {A : Type 0} (P Q : A → Sofar → Type 0) (w : Went A) → Thus P w → Thus Q w → Thus (λ x s. P x s × Q x s) w
thus_both P Q w p q = record { where_clear = λ none. (p.where_clear none, q.where_clear none) }

-- a fact with a premise
pub thus_where : {A : Type 0} (L : Type 0) (P : A → Sofar → Type 0) (w : Went A) → (L → Thus P w) → Thus (λ x s. L → P x s) w
thus_where L P w f = record { where_clear = λ none l. let thus = f l in thus.where_clear none }

-- ---- new names

-- the names behind those in front
pub record Newly (under : Bool) (s t : Sofar) : Type 0 where
  pub more : List (List ℕ)
  pub are : t.names ≡ s.names ++ more
  pub fresh : (name : List ℕ) → is_among more name ≡ true → is_among s.names name ≡ false
  pub unbound : under ≡ true → more ≡ []

-- a part that binds none
pub newly_same : (under : Bool) (s t : Sofar) → t.names ≡ s.names → Newly under s t
newly_same under s t same = record { more = []; are = same ∙ sym (append-nil s.names); fresh = λ name h. absurd (true≢false (sym h)); unbound = λ is. refl }

-- a name of either list
pub among_append : (xs ys : List (List ℕ)) (name : List ℕ) → is_among (xs ++ ys) name ≡ (is_among xs name || is_among ys name)
among_append xs ys name = list_any-append (λ n. bytes_eq n name) xs ys

-- parts in a row
pub newly_on : (under : Bool) (s t u : Sofar) → Newly under s t → Newly under t u → Newly under s u
newly_on under s t u a b = record {
  more = a.more ++ b.more;
  are = b.are ∙ ap (λ (l : List (List ℕ)). l ++ b.more) a.are ∙ append_assoc s.names a.more b.more;
  fresh = λ name h. or_case (is_among s.names name ≡ false) (is_among a.more name) (is_among b.more name) (sym (among_append a.more b.more name) ∙ h)
      (λ first. a.fresh name first)
      (λ later. (or_parts (is_among s.names name) (is_among a.more name) (sym (among_append s.names a.more name) ∙ sym (ap (λ (l : List (List ℕ)). is_among l name) a.are) ∙ b.fresh name later)).0);
  unbound = λ is. ap (λ (l : List (List ℕ)). l ++ b.more) (a.unbound is) ∙ b.unbound is;
}

only : (name other : List ℕ) → (bytes_eq name other || false) ≡ true → name ≡ other
only name other h = (bytes_eq-Decides name other).0 (alone (bytes_eq name other) h)
  where
    alone : (b : Bool) → (b || false) ≡ true → b ≡ true
    alone true h = refl
    alone false h = h

-- what is read of a name
pub record Pushed (under : Bool) (s t : Sofar) : Type 0 where
  pub newly : Newly under s t
  pub operands : t.operands ≡ s.operands

-- for every name that a template binds
pub name_newly : (scope : Scope) (under : Bool) (binds : Option ℕ) (name : Name) (s : Sofar) → Thus (λ place t. Pushed under s t) (name_read scope under binds name s)
unfolding name_read
name_newly scope under binds name s =
    thus_behind (λ place t. Pushed under s t) (told name.spot (name_codes scope under binds s.names name.text)) (went (short (length s.names)) (with_name name.text s)) (λ none.
    let codes = no_told name.spot (name_codes scope under binds s.names name.text) none in
    let a = no_both ((if is_taken scope s.names name.text then 1 ∷ [] else []) ++ (if under then 19 ∷ [] else [])) (if is_full binds s.names then 4 ∷ [] else []) codes in
    let b = no_both (if is_taken scope s.names name.text then 1 ∷ [] else []) (if under then 19 ∷ [] else []) a.0 in
    let untaken = or_parts (is_some (seen_of scope name.text)) (is_among s.names name.text) (no_if (is_taken scope s.names name.text) 1 b.0) in
    thus_went (λ place t. Pushed under s t) (short (length s.names)) (with_name name.text s) (record {
      operands = refl;
      newly = record {
        more = name.text ∷ [];
        are = refl;
        fresh = λ other h. ap (is_among s.names) (sym (only name.text other h)) ∙ untaken.1;
        unbound = λ is. absurd (true≢false (sym is ∙ no_if under 19 b.1));
      };
    }))
