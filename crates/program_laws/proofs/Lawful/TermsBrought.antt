-- What a part of an event expression evaluates at the `on` is plain, and what the part names is mentioned there.
use Rattle.std.proofs.Common.{◌≡◌, ◌||◌, ◌∷◌, ◌++◌}
use Rattle.program_laws.proofs.Common.{ℕ, Bool, true, false, List, [], refl, sym, ap, ◌∙◌, append_assoc, list_all, and_from, or_left, or_right, list_all-append, append-nil, Expr, TypedExpr, mentions, all_mention, Sight, Visible, path_of, Scope, Table, Demand, expr_found, Sofar, expr_names, either, SeesNamed, KeepsSpecial, permitted, Mentioned, is_barred}
use Rattle.typed_program.specs.Paths.{plain}
use Rattle.expr_rules.specs.declared.asked.Paths.TheVariants as paths
use Rattle.stmt_check.specs.Captures.{Names as Naming}

-- what is proved elsewhere of expressions
pub record ExpressionLaws : Type 0 where
  pub expressions : (table : Table) (sight : Sight) (scope : Scope) (e : Expr) (demand : Demand) → SeesNamed sight.visible scope (expr_names e) → KeepsSpecial table scope sight.special → (expr_found table scope e demand).faults ≡ [] → permitted demand.paths (path_of sight (expr_found table scope e demand).part) ≡ true
  pub expressions_mention : (table : Table) (scope : Scope) (e : Expr) (demand : Demand) → (expr_found table scope e demand).faults ≡ [] → Mentioned scope (expr_names e) (mentions (expr_found table scope e demand).part)

-- ---- names seen, and names mentioned

-- a test that fewer names pass
pub sees_fewer : (visible : List Visible) (scope : Scope) (few more : Naming) → ((name : List ℕ) → few name ≡ true → more name ≡ true) → SeesNamed visible scope more → SeesNamed visible scope few
sees_fewer visible scope few more within h = record { sees_at = λ name s named at global barred. h.sees_at name s (within name named) at global barred }

-- one of two
pub or_case : (P : Type 0) (a b : Bool) → (a || b) ≡ true → (a ≡ true → P) → (b ≡ true → P) → P
or_case P true b h f g = f refl
or_case P false b h f g = g h

mention_front : (xs ys : List TypedExpr) (n : ℕ) → all_mention xs n ≡ true → all_mention (xs ++ ys) n ≡ true
mention_front [] ys n h = absurd (cc)
mention_front (x ∷ xs) ys n h = or_case ((mentions x n || all_mention (xs ++ ys) n) ≡ true) (mentions x n) (all_mention xs n) h (λ here. or_left (mentions x n) (all_mention (xs ++ ys) n) here) (λ there. or_right (mentions x n) (all_mention (xs ++ ys) n) (mention_front xs ys n there))

mention_behind : (xs ys : List TypedExpr) (n : ℕ) → all_mention ys n ≡ true → all_mention (xs ++ ys) n ≡ true
mention_behind [] ys n h = h
mention_behind (x ∷ xs) ys n h = or_right (mentions x n) (all_mention (xs ++ ys) n) (mention_behind xs ys n h)

module _ (table : Table) (scope : Scope) (sight : Sight) where
  abbrev pub all_plain : List TypedExpr → Bool
  all_plain es = list_all (λ e. plain (path_of sight e)) es

  -- the operands that a part adds: plain, and they mention what the part names
  pub record Brings (named : Naming) (s t : Sofar) : Type 0 where
    pub new : List TypedExpr
    pub are : t.operands ≡ s.operands ++ new
    pub plain_so : SeesNamed sight.visible scope named → KeepsSpecial table scope sight.special → all_plain new ≡ true
    pub mention_so : Mentioned scope named (all_mention new)

  -- a part that adds none
  pub brings_none : (named : Naming) (s t : Sofar) → t.operands ≡ s.operands → Mentioned scope named (all_mention []) → Brings named s t
  brings_none named s t is m = record { new = []; are = is ∙ sym (append-nil s.operands); plain_so = λ sees special. refl; mention_so = m }

  -- a part that names nothing
  pub unnamed : (named : Naming) (new : List TypedExpr) → ((name : List ℕ) → named name ≡ true → ⊥) → Mentioned scope named (all_mention new)
  unnamed named new never = record { mentioned = λ name s is at global. absurd (never name is) }

  -- parts in a row
  pub brings_on : (one other : Naming) (s t u : Sofar) → Brings one s t → Brings other t u → Brings (either one other) s u
  brings_on one other s t u a b = record {
    new = a.new ++ b.new;
    are = b.are ∙ ap (λ (l : List TypedExpr). l ++ b.new) a.are ∙ append_assoc s.operands a.new b.new;
    plain_so = λ sees special.
        list_all-append (λ e. plain (path_of sight e)) a.new b.new
        ∙ and_from (all_plain a.new) (all_plain b.new)
        (a.plain_so (sees_fewer sight.visible scope one (either one other) (λ name h. or_left (one name) (other name) h) sees) special)
        (b.plain_so (sees_fewer sight.visible scope other (either one other) (λ name h. or_right (one name) (other name) h) sees) special);
    mention_so = record {
      mentioned = λ name x named at global.
          or_case ((all_mention (a.new ++ b.new) x.number ≡ true) × (is_barred x ≡ false)) (one name) (other name) named
          (λ here. let m = a.mention_so in let p = m.mentioned name x here at global in (mention_front a.new b.new x.number p.0, p.1))
          (λ there. let m = b.mention_so in let p = m.mentioned name x there at global in (mention_behind a.new b.new x.number p.0, p.1));
    };
  }

  -- one value that is evaluated at the `on`
  pub brings_value : ExpressionLaws → (e : Expr) (demand : Demand) (x : TypedExpr) (s : Sofar) → demand.paths ≡ paths.Refused → (expr_found table scope e demand).faults ≡ [] → x ≡ (expr_found table scope e demand).part → Brings (expr_names e) s (record s { operands = s.operands ++ x ∷ [] })
  brings_value laws e demand x s refused none is = record {
    new = x ∷ [];
    are = refl;
    plain_so = λ sees special.
        and_from (plain (path_of sight x)) true
        (ap (λ (y : TypedExpr). plain (path_of sight y)) is ∙ ap (λ p. permitted p (path_of sight (expr_found table scope e demand).part)) (sym refused) ∙ laws.expressions table sight scope e demand sees special none)
        refl;
    mention_so = record {
      mentioned = λ name y named at global.
          let m = laws.expressions_mention table scope e demand none in
          let p = m.mentioned name y named at global in
          (or_left (mentions x y.number) false (ap (λ (z : TypedExpr). mentions z y.number) is ∙ p.0), p.1);
    };
  }
