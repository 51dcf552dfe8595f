-- Names that are declared: each is visible by a number of its own from there on.
use Rattle.std.proofs.Common.{◌≡◌, ◌+◌, ◌≤◌, ◌∷◌, ◌++◌}
use Rattle.program_laws.proofs.Common.{ℕ, suc, List, [], Some, true, false, nat_le, is_some, Option, refl, sym, ap, subst, ◌∙◌, arith, list_any, Shape, Expr, Name, TypeExpr, Visible, Seen, SeenKind, told, seen_of, type_found, SeesName, is_barred, kind_seen, is_known_reference, State, Around, when, short, local_codes, local_read, seen_local, with_local, none, expr_names, exactly, reads, declare_read, declare_as_read}
use Rattle.typed_program.specs.declared.statement.Stmt.TheVariants as made
use Rattle.typed_program.specs.declared.statement.Stmt.TheOpen as layer
use Rattle.typed_program.specs.Courses.{with_local as with_visible}
use Rattle.typed_program.specs.Mentions.{none as no_mention}
use Rattle.type_table.specs.declared.scope.SeenKind.TheVariants as kind
use Rattle.expr_rules.specs.Places.{is_global}
use Rattle.stmt_check.specs.Bodies.{name_read}
use Rattle.stmt_check.specs.Steps.{◌>>=◌, pure, given, tells, changes}
use Rattle.program_laws.proofs.Lawful.Rules.{LawRules}
use Rattle.program_laws.proofs.Rules.Claims.{Claims, claims_of, law_bind, law_pure, law_given, law_more}
use Rattle.program_laws.proofs.Rules.Lookups.{Differ, is_called, names_of, names_append, below_more, below_both, found_behind, found_here, found_front, differ_more, not_seen, not_there}
use Rattle.program_laws.proofs.Rules.Readings.{Keeps, kept_as, reads_law, mentioned_none, mentioned_still}
use Rattle.program_laws.proofs.Rules.Sights.{Law, Sees, Still, Behind, still_same, still_on, still_sees, still_behind, behind_on}
use Rattle.program_laws.proofs.Shapes.Forms.{of_local}
use Rattle.program_laws.proofs.Shapes.Frames.{Frame, Before}
use Rattle.program_laws.proofs.Shapes.Lists.{no_both, no_told, no_when, all_append, all_of_same}
use Rattle.program_laws.proofs.Shapes.Locals.{Sound, OfLocals, name_claim, local_claim}
use Rattle.program_laws.proofs.Shapes.Reading.{Fitting, Within}
use Rattle.program_laws.proofs.Shapes.Types.{type_stands}

-- ---- a name that is declared isn't visible

-- a name that isn't visible, where nothing else changes
pub record Unseen (s t : State) (name : List ℕ) : Type 0 where
  pub still : Still s t
  pub free : list_any (is_called name) s.scope.names ≡ false

name_free : (name : Name) (s : State) → (name_read name s).faults ≡ [] → list_any (is_called name.text) s.scope.names ≡ false
unfolding ◌>>=◌ tells changes
name_free name s none =
    let codes = no_told name.spot (local_codes s name.text) (no_both (told name.spot (local_codes s name.text)) [] none).0 in
    let one = no_both (when (is_some (seen_of s.scope name.text)) 1) (when (nat_le 256 s.whole) 4) codes in
    not_seen s.scope name.text (no_when (is_some (seen_of s.scope name.text)) 1 one.0)

-- a name that is declared isn't visible before
pub name_law : (f : Frame) {k : ℕ} {H : List Shape → Type 0} (name : Name) (s : State) → Claims f k (suc k) H (λ all x t. Unseen s t name.text) s (name_read name s)
unfolding ◌>>=◌ tells changes
name_law f name s = law_more f (λ all h. h) (λ all h none before sites q. record { still = record { names = refl; next = refl; sites = omega arith }; free = name_free name s none }) (claims_of refl (name_claim f name s))

-- nor where the same names are visible
pub unseen_at : (s t : State) (name : List ℕ) → Still s t → list_any (is_called name) s.scope.names ≡ false → list_any (is_called name) t.scope.names ≡ false
unseen_at s t name still h = ap (list_any (is_called name)) still.names ∙ h

-- ---- a local more

sees_more : (v : List Visible) (w : List Visible) (x : Seen) → SeesName v x → SeesName (v ++ w) x
sees_more v w x h = record { at = h.at; is_at = found_front x.number v w h.at h.is_at; kind = h.kind; refers = h.refers }

module _ (f : Frame) (kind : SeenKind) (of : OfLocals kind) (name : List ℕ) (shape : Option Shape) where
  local_sees : (low : ℕ) (v : List Visible) (s : State) → s.next ≤ 65400 → list_any (is_called name) s.scope.names ≡ false → Sees f low v s → Behind f low s (with_local kind name shape s) (with_visible s.next (kind_seen kind) v)
  local_sees low v s few free h =
      let y : Visible = record { number = s.next; kind = kind_seen kind } in
      let seen : Seen = seen_local kind name shape s in
      let new : SeesName (v ++ y ∷ []) seen = record { at = y; is_at = found_behind s.next v (y ∷ []) h.below ∙ found_here s.next y [] refl; kind = refl; refers = of.own (is_known_reference shape) } in
      record {
        sees = record {
          seen = all_append (λ x. f.named x.name ≡ true → is_global x.kind ≡ false → is_barred x ≡ false → SeesName (v ++ y ∷ []) x) s.scope.names (seen ∷ [])
              (all_of_same s.scope.names (λ x k named other free. sees_more v (y ∷ []) x (k named other free)) h.seen)
              ((λ named other free. new), tt);
          below = below_both (short (s.next + 1)) v (y ∷ []) (below_more s.next (short (s.next + 1)) v (omega arith) h.below) (omega arith, tt);
          differ = subst (λ (ns : List (List ℕ)). Differ ns) (sym (names_append s.scope.names (seen ∷ []))) (differ_more (names_of s.scope.names) name h.differ (not_there s.scope.names name free));
          from = h.from;
        };
        more = seen ∷ [];
        names = refl;
        next = omega arith;
      }

  few_numbers : (k : ℕ) (all : List Shape) (s : State) → Before f (suc k) all s → s.next ≤ 65400
  few_numbers k all s b = let next = b.next in let small = b.small in let room = b.room in let whole = b.whole in omega arith

  -- a local is visible by its number from here on
  pub local_law : {k : ℕ} {H : List Shape → Type 0} (low : ℕ) (v : List Shape → List Visible) (s : State) → ((all : List Shape) → H all → Sound f.program.types shape) → ((all : List Shape) → H all → Sees f low (v all) s) → ((all : List Shape) → H all → list_any (is_called name) s.scope.names ≡ false)
      → Claims f (suc k) k H (λ all n t. Behind f low s t (with_visible n (kind_seen kind) (v all))) s (local_read kind name shape s)
  unfolding changes
  local_law {k} low v s sound sees free = law_more f (λ all h. h) (λ all h none before sites q. local_sees low (v all) s (few_numbers k all s before) (free all h) (sees all h)) (claims_of refl (local_claim f kind of name shape s sound))

-- ---- declarations

module _ (rules : LawRules) (f : Frame) (around : Around) (fitting : Fitting f around) (law : Law f around.table) where
  -- a type as it is written
  pub type_law : {k : ℕ} {H : List Shape → Type 0} (type : TypeExpr) (s : State) → Claims f k k H (λ all x t. Sound f.program.types (Some x) × Still s t) s (given (type_found around.table type) s)
  type_law type s = law_given f (type_found around.table type) s (λ all h none. (record { known = refl; stands = type_stands around.table f.program.types fitting.world.types type none }, still_same s))

  -- a local without a value
  pub declare_law : {k : ℕ} (type : TypeExpr) (name : Name) (v : List Shape → List Visible) (s : State) → Claims f k k (λ all. Sees f law.low (v all) s) (Keeps f around law none v s) s (declare_read around.table type name s)
  declare_law type name v s = law_bind f (given (type_found around.table type)) (λ shape. name_read name >>= λ _. local_read kind.Local name.text (Some shape) >>= λ number. pure (made.Declare number shape)) s
      (type_law type s)
      (law_bind f (name_read name) (λ _. local_read kind.Local name.text (Some _) >>= λ number. pure (made.Declare number _)) _
      (name_law f name _)
      (law_bind f (local_read kind.Local name.text (Some _)) (λ number. pure (made.Declare number _)) _
      (local_law f kind.Local of_local name.text (Some _) law.low v _ (λ all h. h.0.1.0) (λ all h. still_sees (still_sees h.0.0 h.0.1.1) h.1.still) (λ all h. unseen_at _ _ name.text h.1.still h.1.free))
      (law_pure f _ _ (λ all h. kept_as f around law none v s _ all (layer.Declare _ _) _ (made.rolls-Declare _ _) (record {
        lawful = refl;
        behind = behind_on (still_behind h.0.0.0 (still_on h.0.0.1.1 h.0.1.still)) h.1;
        mentioned = mentioned_none s.scope no_mention;
      })))))

  -- a local whose value keeps the rules
  pub declare_as_law : {k : ℕ} (type : TypeExpr) (name : Name) (value : Expr) → Within (expr_names value) f.named → (v : List Shape → List Visible) (s : State) → Claims f k k (λ all. Sees f law.low (v all) s) (Keeps f around law (expr_names value) v s) s (declare_as_read around.table type name value s)
  declare_as_law type name value within v s = law_bind f (given (type_found around.table type)) (λ shape. name_read name >>= λ _. reads around.table (exactly shape) value >>= λ value. local_read kind.Local name.text (Some shape) >>= λ number. pure (made.DeclareAs number value)) s
      (type_law type s)
      (law_bind f (name_read name) (λ _. reads around.table (exactly _) value >>= λ value. local_read kind.Local name.text (Some _) >>= λ number. pure (made.DeclareAs number value)) _
      (name_law f name _)
      (law_bind f (reads around.table (exactly _) value) (λ value. local_read kind.Local name.text (Some _) >>= λ number. pure (made.DeclareAs number value)) _
      (reads_law rules f around fitting law (exactly _) value within v _ (λ all h. still_sees (still_sees h.0.0 h.0.1.1) h.1.still))
      (law_bind f (local_read kind.Local name.text (Some _)) (λ number. pure (made.DeclareAs number _)) _
      (local_law f kind.Local of_local name.text (Some _) law.low v _ (λ all h. h.0.0.1.0) (λ all h. still_sees h.0.0.0 (still_on (still_on h.0.0.1.1 h.0.1.still) h.1.still)) (λ all h. unseen_at _ _ name.text (still_on h.0.1.still h.1.still) h.0.1.free))
      (law_pure f _ _ (λ all h. kept_as f around law (expr_names value) v s _ all (layer.DeclareAs _ _) _ (made.rolls-DeclareAs _ _) (record {
        lawful = h.0.1.fine;
        behind = behind_on (still_behind h.0.0.0.0 (still_on (still_on h.0.0.0.1.1 h.0.0.1.still) h.0.1.still)) h.1;
        mentioned = mentioned_still s _ (expr_names value) _ (still_on h.0.0.0.1.1 h.0.0.1.still) h.0.1.mentioned;
      }))))))
