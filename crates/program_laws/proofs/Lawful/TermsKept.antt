-- Every part of an event expression without faults keeps the rules; what it evaluates at the `on` is plain, and mentions what it names.
use Rattle.std.proofs.Common.{◌≡◌, ◌+◌, ◌&&◌, ◌==◌, ◌∷◌, ◌++◌}
use Rattle.program_laws.proofs.Common.{ℕ, Bool, true, false, not, List, [], drop, length, Option, Some, None, refl, sym, ap, subst, ◌∙◌, true≢false, arith, list_all, drop-append_seam, and_from, eq-eqb, not_from_false, Spot, Duration, Template, EventExpr, EventExpr-F, map-EventExpr, roll-EventExpr, fold-roll-EventExpr, EventNode, EventNode-F, map-EventNode, roll-EventNode, fold-EventNode, fold-roll-EventNode, ind-EventExpr, Term, Term-F, map-Term, roll-Term, Names, Sight, follow, all_plain, term_part, Scope, Table, told, Sofar, template_read, not_codes, each_behind, may_begin, went, event_names, event_node, event_step, duration_names, limit_names, template_names, either}
use Rattle.epl_tree.specs.declared.event.EventNode.TheOpen as node
use Rattle.typed_program.specs.declared.term.Term.TheVariants as term
use Rattle.typed_program.specs.declared.term.Term.TheOpen as layer
use Rattle.typed_program.specs.TermRules.{joins}
use Rattle.typed_program.specs.TermRules.{Part as Ruled, plain as stands_plain}
use Rattle.listener_check.specs.Durations.{duration_read}
use Rattle.listener_check.specs.Limits.{leaf_read}
use Rattle.listener_check.specs.Terms.{Part, each, followed_behind, followed_read, joined_behind, or_read, xor_read, and_read, not_read, all_read, deadline_read, plain, negated, wait_read, ended_read, group_read, leaf_template_read, node_step, expr_step}
use Rattle.listener_check.specs.Terms as reading
use Rattle.listener_check.specs.Went.{◌>>=◌}
use Rattle.program_laws.proofs.Shapes.Lists.{no_told}
use Rattle.program_laws.proofs.Terms.Counted.{duration_used}
use Rattle.program_laws.proofs.Terms.CountsRead.{part_made}
use Rattle.program_laws.proofs.Terms.Thus.{Thus, thus_went, thus_then, thus_behind}
use Rattle.program_laws.proofs.Lawful.TermsBound.{Widened}
use Rattle.program_laws.proofs.Lawful.TermsBrought.{ExpressionLaws, brings_none, brings_on, unnamed}
use Rattle.program_laws.proofs.Lawful.TermsDurations.{duration_brings}
use Rattle.program_laws.proofs.Lawful.TermsNewly.{Newly, newly_same, newly_on}
use Rattle.program_laws.proofs.Lawful.TermsOperands.{brings_from}
use Rattle.program_laws.proofs.Lawful.TermsParts.{Bring, Left, Whole, rule, rules, TermSo, PartSo, ForExpr, X, part, parts, named_by, Reads, part_reads, stands, Together, EachAlong, each_along, each_together, each_lawful, each_plain, BehindAlong, behind_along, behind_together, behind_follow}
use Rattle.program_laws.proofs.Lawful.TermsPlaces.{within_before, lefts_more}
use Rattle.program_laws.proofs.Lawful.TermsTemplates.{TemplateSo, template_keeps, SameButLeaves, leaf_same}

none_length : (n m k : ℕ) → m ≡ n → m ≡ n + k → (k == 0) ≡ true
none_length n m k same sum = eq-eqb k 0 (omega arith)

may_be : (may : Bool) → not_codes may ≡ [] → may ≡ false → true ≡ false
may_be true h is = is
may_be false h is = absurd (cc)

-- of the first two operands of an `and` at most one is a `not`
both_not : (first second : Bool) → (not second ≡ false → first ≡ false) → not (first && second) ≡ true
both_not false second h = refl
both_not true true h = absurd (true≢false (h refl))
both_not true false h = refl

module _ (table : Table) (scope inner : Scope) (w : Widened scope inner) (sight : Sight) (laws : ExpressionLaws) (names : Names) where
  -- what the rules say of a term, by its layer
  abbrev ruled_in : Term-F Term → Ruled
  ruled_in d = term_part names.types (map-Term Term Ruled (rule table scope inner w sight laws names) d)

  rule_is : (d : Term-F Term) (t : Term) → roll-Term d ≡ t → rule table scope inner w sight laws names t ≡ ruled_in d
  rule_is d t is = part_made table scope inner names.types d t is

  abbrev So : Bool → Bool → Bool → List (List ℕ) → (List ℕ → Bool) → Sofar → Term → Sofar → Type 0
  So is_not may under left named s t u = TermSo table scope inner w sight laws names is_not may under left named s t u

  abbrev Keeps : (List ℕ → Bool) → Part → Type 0
  Keeps named p = PartSo table scope inner w sight laws names named p

  abbrev Tree : Type 0
  Tree = X table scope inner w sight laws names

  abbrev parts_of : List Tree → List Part
  parts_of ys = parts table scope inner w sight laws names ys

  abbrev part_at : Tree → Part
  part_at x = part table scope inner w sight laws names x

  abbrev all_named : List Tree → List ℕ → Bool
  all_named ys = named_by table scope inner w sight laws names ys

  abbrev rule_of : Term → Ruled
  rule_of t = rule table scope inner w sight laws names t

  abbrev rules_of : List Term → List Ruled
  rules_of ts = rules table scope inner w sight laws names ts

  -- a part that is no `not`
  made_so : (may under : Bool) (left : List (List ℕ)) (named : List ℕ → Bool) (s : Sofar) (d : Term-F Term) (t : Term) (u : Sofar) → roll-Term d ≡ t → (ruled_in d).is_not ≡ false → Newly under s u → Bring table scope inner w sight laws names named s u → (Whole table scope inner w sight laws names u → (nums : List ℕ) → Left table scope inner w sight laws names left nums → (ruled_in d).lawful nums ≡ true) → So false may under left named s t u
  made_so may under left named s d t u is no_not newly brings lawful = record {
    newly = newly;
    brings = brings;
    is_not_so = ap (λ (q : Ruled). q.is_not) (rule_is d t is) ∙ no_not;
    may_not = λ h. refl;
    lawful = λ a nums l. ap (λ (q : Ruled). q.lawful nums) (rule_is d t is) ∙ lawful a nums l;
  }

  -- ---- chains

  abbrev Chain : Tree → List Tree → List ℕ → Bool
  Chain first ys = either (event_names first.0) (all_named ys)

  chain_brings : (under : Bool) (first : Tree) (ys : List Tree) (s v u : Sofar) → Bring table scope inner w sight laws names (event_names first.0) s v → Together table scope inner w sight laws names under ys v u → Bring table scope inner w sight laws names (Chain first ys) s u
  chain_brings under first ys s v u b r = brings_on table scope sight (event_names first.0) (all_named ys) s v u b r.brings

  followed_part : (first : Tree) (ys : List Tree) → Keeps (Chain first ys) (plain (followed_read (part_at first) (parts_of ys)))
  unfolding followed_read followed_behind
  followed_part first ys = record {
    reads = λ may under left s.
        thus_then (Reads table scope inner w sight laws names first false under left s) (So false may under left (Chain first ys) s) ((part_at first).reading false under left s) (λ head v. followed_behind (length s.names) head (parts_of ys) under left v)
        (part_reads table scope inner w sight laws names first false under left s)
        (λ head v q. thus_then (BehindAlong table scope inner w sight laws names (length s.names) under left ys v) (So false may under left (Chain first ys) s) (each_behind (length s.names) under left (parts_of ys) v) (λ tail u. went (term.Followed head tail) u)
        (behind_along table scope inner w sight laws names (length s.names) under left ys v)
        (λ tail u a. thus_went (So false may under left (Chain first ys) s) (term.Followed head tail) u
        (followed_so first ys may under left s head v q tail u a)));
  }
    where
      followed_so : (first : Tree) (ys : List Tree) (may under : Bool) (left : List (List ℕ)) (s : Sofar) (head : Term) (v : Sofar) → Reads table scope inner w sight laws names first false under left s head v → (tail : List Term) (u : Sofar) → BehindAlong table scope inner w sight laws names (length s.names) under left ys v tail u → So false may under left (Chain first ys) s (term.Followed head tail) u
      followed_so first ys may under left s head v q tail u a =
          let so = q.0 in let counts = q.1 in let many = counts.many in
          let r = behind_together table scope inner w sight laws names (length s.names) under left ys v tail u a in
          made_so may under left (Chain first ys) s (layer.Followed head tail) (term.Followed head tail) u (term.rolls-Followed head tail) refl (newly_on under s v u so.newly r.newly) (chain_brings under first ys s v u so.brings r)
          (λ whole nums l.
          let here = within_before table scope inner w names under v u r.newly whole in
          let n = so.newly in
          let since : drop (length s.names) v.names ≡ n.more = ap (drop (length s.names)) n.are ∙ drop-append_seam s.names n.more in
          and_from (stands_plain (rule_of head) nums) (follow (nums ++ (rule_of head).binds) (rules_of tail))
          (stands table scope inner w sight laws names first under left s head v q here nums l)
          (behind_follow table scope inner w sight laws names (length s.names) under left ys v tail u a (omega arith) whole (nums ++ (rule_of head).binds)
          (subst (λ (m : List (List ℕ)). Left table scope inner w sight laws names (left ++ m) (nums ++ (rule_of head).binds)) (sym since)
          (lefts_more table scope inner w names under s v n (rule_of head).binds counts.in_order many here left nums l))))

  -- a chain whose operands follow the first one where they stand
  chained_part : (made : Term → List Term → Term) (may_first may_rest : Bool) → (first : Tree) (ys : List Tree) → ((may under : Bool) (left : List (List ℕ)) (s : Sofar) (head : Term) (v : Sofar) → Reads table scope inner w sight laws names first may_first under left s head v → (tail : List Term) (u : Sofar) → EachAlong table scope inner w sight laws names may_rest under left ys v tail u → So false may under left (Chain first ys) s (made head tail) u) → Keeps (Chain first ys) (plain (λ under left s. (part_at first).reading may_first under left s >>= λ head v. (each may_rest under left (parts_of ys) v >>= λ tail u. went (made head tail) u)))
  chained_part made may_first may_rest first ys so = record {
    reads = λ may under left s.
        thus_then (Reads table scope inner w sight laws names first may_first under left s) (So false may under left (Chain first ys) s) ((part_at first).reading may_first under left s) (λ head v. (each may_rest under left (parts_of ys) v >>= λ tail u. went (made head tail) u))
        (part_reads table scope inner w sight laws names first may_first under left s)
        (λ head v q. thus_then (EachAlong table scope inner w sight laws names may_rest under left ys v) (So false may under left (Chain first ys) s) (each may_rest under left (parts_of ys) v) (λ tail u. went (made head tail) u)
        (each_along table scope inner w sight laws names may_rest under left ys v)
        (λ tail u a. thus_went (So false may under left (Chain first ys) s) (made head tail) u (so may under left s head v q tail u a)));
  }

  -- operands none of which is a `not`
  plain_so : (made : Term → List Term → Term) (d : Term → List Term → Term-F Term) → ((head : Term) (tail : List Term) → roll-Term (d head tail) ≡ made head tail) → ((head : Term) (tail : List Term) → ((ruled_in (d head tail)).is_not ≡ false) × ((nums : List ℕ) → (ruled_in (d head tail)).lawful nums ≡ all_plain (rule_of head ∷ rules_of tail) nums)) → (first : Tree) (ys : List Tree) (may under : Bool) (left : List (List ℕ)) (s : Sofar) (head : Term) (v : Sofar) → Reads table scope inner w sight laws names first false under left s head v → (tail : List Term) (u : Sofar) → EachAlong table scope inner w sight laws names false under left ys v tail u → So false may under left (Chain first ys) s (made head tail) u
  plain_so made d is form first ys may under left s head v q tail u a =
      let so = q.0 in
      let f = form head tail in
      let r = each_together table scope inner w sight laws names false under left ys v tail u a in
      made_so may under left (Chain first ys) s (d head tail) (made head tail) u (is head tail) f.0 (newly_on under s v u so.newly r.newly) (chain_brings under first ys s v u so.brings r)
      (λ whole nums l.
      f.1 nums
      ∙ and_from (stands_plain (rule_of head) nums) (all_plain (rules_of tail) nums)
      (stands table scope inner w sight laws names first under left s head v q (within_before table scope inner w names under v u r.newly whole) nums l)
      (each_plain table scope inner w sight laws names under left ys v tail u a whole nums l))

  joins_so : (first : Tree) (ys : List Tree) (under : Bool) (left : List (List ℕ)) (head : Term) (v : Sofar) (tail : List Term) (u : Sofar) → (rule_of head).is_not ≡ (part_at first).is_not → (may_begin (parts_of ys) ≡ false → (part_at first).is_not ≡ false) → EachAlong table scope inner w sight laws names true under left ys v tail u → joins (rule_of head) (rules_of tail) ≡ true
  joins_so first [] under left head v [] u is may a = not_from_false (rule_of head).is_not (is ∙ may refl)
  joins_so first [] under left head v (t ∷ tail) u is may a = absurd a
  joins_so first (y ∷ ys) under left head v [] u is may a = absurd a
  joins_so first (y ∷ ys) under left head v (t ∷ tail) u is may a =
      let second = a.1.0 in both_not (rule_of head).is_not (rule_of t).is_not (λ h. is ∙ may (ap not (sym second.is_not_so) ∙ h))

  and_so : (first : Tree) (ys : List Tree) (may under : Bool) (left : List (List ℕ)) (s : Sofar) (head : Term) (v : Sofar) → Reads table scope inner w sight laws names first (may_begin (parts_of ys)) under left s head v → (tail : List Term) (u : Sofar) → EachAlong table scope inner w sight laws names true under left ys v tail u → So false may under left (Chain first ys) s (term.And head tail) u
  and_so first ys may under left s head v q tail u a =
      let so = q.0 in
      let r = each_together table scope inner w sight laws names true under left ys v tail u a in
      made_so may under left (Chain first ys) s (layer.And head tail) (term.And head tail) u (term.rolls-And head tail) refl (newly_on under s v u so.newly r.newly) (chain_brings under first ys s v u so.brings r)
      (λ whole nums l.
      and_from (joins (rule_of head) (rules_of tail)) (list_all (λ p. p.lawful nums) (rule_of head ∷ rules_of tail))
      (joins_so first ys under left head v tail u so.is_not_so so.may_not a)
      (and_from ((rule_of head).lawful nums) (list_all (λ p. p.lawful nums) (rules_of tail))
      (so.lawful (within_before table scope inner w names under v u r.newly whole) nums l)
      (each_lawful table scope inner w sight laws names true under left ys v tail u a whole nums l)))

  -- ---- parts of one

  all_part : (x : Tree) → Keeps (event_names x.0) (plain (all_read (part_at x)))
  unfolding all_read
  all_part x = record {
    reads = λ may under left s.
        thus_then (Reads table scope inner w sight laws names x false under left s) (So false may under left (event_names x.0) s) ((part_at x).reading false under left s) (λ t u. went (term.All t) u) (part_reads table scope inner w sight laws names x false under left s)
        (λ t u q. let so = q.0 in thus_went (So false may under left (event_names x.0) s) (term.All t) u
        (made_so may under left (event_names x.0) s (layer.All t) (term.All t) u (term.rolls-All t) refl so.newly so.brings (λ whole nums l. stands table scope inner w sight laws names x under left s t u q whole nums l)));
  }

  -- under a `not` nothing is bound
  not_so : (x : Tree) (may under : Bool) (left : List (List ℕ)) (s : Sofar) (t : Term) (u : Sofar) → not_codes may ≡ [] → Reads table scope inner w sight laws names x false true left s t u → So true may under left (event_names x.0) s (term.Not t) u
  not_so x may under left s t u codes q =
      let so = q.0 in let counts = q.1 in let n = so.newly in
      let e = rule_is (layer.Not t) (term.Not t) (term.rolls-Not t) in
      let same : u.names ≡ s.names = n.are ∙ ap (λ (l : List (List ℕ)). s.names ++ l) (n.unbound refl) ∙ names_end s.names in
      record {
        newly = record { more = n.more; are = n.are; fresh = n.fresh; unbound = λ is. n.unbound refl };
        brings = so.brings;
        is_not_so = ap (λ (r : Ruled). r.is_not) e;
        may_not = may_be may codes;
        lawful = λ whole nums l.
            ap (λ (r : Ruled). r.lawful nums) e
            ∙ and_from (stands_plain (rule_of t) nums) (length (rule_of t).binds == 0)
            (stands table scope inner w sight laws names x true left s t u q whole nums l)
            (none_length (length s.names) (length u.names) (length (rule_of t).binds) (ap length same) counts.many);
      }
    where
      names_end : (xs : List (List ℕ)) → xs ++ [] ≡ xs
      names_end [] = refl
      names_end (y ∷ xs) = ap (λ (l : List (List ℕ)). y ∷ l) (names_end xs)

  not_part : (spot : Spot) (x : Tree) → Keeps (event_names x.0) (negated spot (part_at x))
  unfolding not_read
  not_part spot x = record {
    reads = λ may under left s.
        thus_behind (So true may under left (event_names x.0) s) (told spot (not_codes may)) ((part_at x).reading false true left s >>= λ t u. went (term.Not t) u) (λ none.
        thus_then (Reads table scope inner w sight laws names x false true left s) (So true may under left (event_names x.0) s) ((part_at x).reading false true left s) (λ t u. went (term.Not t) u) (part_reads table scope inner w sight laws names x false true left s)
        (λ t u q. thus_went (So true may under left (event_names x.0) s) (term.Not t) u (not_so x may under left s t u (no_told spot (not_codes may) none) q)));
  }

  -- what a duration adds
  record Lasts (named : List ℕ → Bool) (s u : Sofar) : Type 0 where
    brings : Bring table scope inner w sight laws names named s u
    names_same : u.names ≡ s.names

  duration_lasts : (d : Duration) (s : Sofar) → Thus (λ at u. Lasts (duration_names d) s u) (duration_read table scope inner d s)
  duration_lasts d s = record {
    where_clear = λ none.
        let brought = duration_brings table scope inner w sight laws d s in
        let counted = duration_used table scope inner d s in
        record { brings = brought.where_clear none; names_same = (let used = counted.where_clear none in used.names) };
  }

  ended_so : (x : Tree) (within : Option Duration) (may under : Bool) (left : List (List ℕ)) (start s : Sofar) (t : Term) (u : Sofar) → SameButLeaves table scope inner w sight laws names start s → Reads table scope inner w sight laws names x false under left s t u → Thus (So false may under left (either (event_names x.0) (limit_names within)) start) (ended_read table scope inner t within u)
  unfolding ended_read
  ended_so x None may under left start s t u same q =
      let so = q.0 in
      thus_went (So false may under left (either (event_names x.0) (limit_names None)) start) (term.Group t None) u
      (made_so may under left (either (event_names x.0) (limit_names None)) start (layer.Group t None) (term.Group t None) u (term.rolls-Group t None) refl
      (newly_on under start s u (newly_same under start s same.names_same) so.newly)
      (brings_on table scope sight (event_names x.0) (limit_names None) start u u (brings_from table scope inner w sight laws (event_names x.0) start s u same.operands_same so.brings) (brings_none table scope sight (limit_names None) u u refl (unnamed table scope sight (limit_names None) [] (λ name h. true≢false (sym h)))))
      (λ whole nums l. stands table scope inner w sight laws names x under left s t u q whole nums l))
  ended_so x (Some d) may under left start s t u same q =
      thus_then (λ at v. Lasts (duration_names d) u v) (So false may under left (either (event_names x.0) (limit_names (Some d))) start) (duration_read table scope inner d u) (λ at v. went (term.Group t (Some at)) v) (duration_lasts d u)
      (λ at v lasts.
      let so = q.0 in
      let none_new = newly_same under u v lasts.names_same in
      thus_went (So false may under left (either (event_names x.0) (limit_names (Some d))) start) (term.Group t (Some at)) v
      (made_so may under left (either (event_names x.0) (limit_names (Some d))) start (layer.Group t (Some at)) (term.Group t (Some at)) v (term.rolls-Group t (Some at)) refl
      (newly_on under start u v (newly_on under start s u (newly_same under start s same.names_same) so.newly) none_new)
      (brings_on table scope sight (event_names x.0) (duration_names d) start u v (brings_from table scope inner w sight laws (event_names x.0) start s u same.operands_same so.brings) lasts.brings)
      (λ whole nums l. stands table scope inner w sight laws names x under left s t u q (within_before table scope inner w names under u v none_new whole) nums l)))

  deadline_same : (spot : Spot) (within : Option Duration) (s : Sofar) → Thus (λ u t. SameButLeaves table scope inner w sight laws names s t) (deadline_read spot within s)
  unfolding deadline_read
  deadline_same spot (Some d) s = leaf_same table scope inner w sight laws names spot s
  deadline_same spot None s = thus_went (λ u t. SameButLeaves table scope inner w sight laws names s t) tt s (record { names_same = refl; operands_same = refl })

  group_part : (spot : Spot) (x : Tree) (within : Option Duration) → Keeps (either (event_names x.0) (limit_names within)) (plain (group_read table scope inner spot (part_at x) within))
  unfolding group_read
  group_part spot x within = record {
    reads = λ may under left start.
        thus_then (λ u s. SameButLeaves table scope inner w sight laws names start s) (So false may under left (either (event_names x.0) (limit_names within)) start) (deadline_read spot within start) (λ u s. (part_at x).reading false under left s >>= λ t v. ended_read table scope inner t within v) (deadline_same spot within start)
        (λ u s same. thus_then (Reads table scope inner w sight laws names x false under left s) (So false may under left (either (event_names x.0) (limit_names within)) start) ((part_at x).reading false under left s) (λ t v. ended_read table scope inner t within v) (part_reads table scope inner w sight laws names x false under left s)
        (λ t v q. ended_so x within may under left start s t v same q));
  }

  -- ---- leaves

  wait_part : (spot : Spot) (d : Duration) → Keeps (duration_names d) (plain (λ under left s. wait_read table scope inner spot d s))
  unfolding wait_read
  wait_part spot d = record {
    reads = λ may under left s.
        thus_then (λ u t. SameButLeaves table scope inner w sight laws names s t) (So false may under left (duration_names d) s) (leaf_read spot s) (λ u t. duration_read table scope inner d t >>= λ at v. went (term.Wait at) v) (leaf_same table scope inner w sight laws names spot s)
        (λ u t same. thus_then (λ at v. Lasts (duration_names d) t v) (So false may under left (duration_names d) s) (duration_read table scope inner d t) (λ at v. went (term.Wait at) v) (duration_lasts d t)
        (λ at v lasts. thus_went (So false may under left (duration_names d) s) (term.Wait at) v
        (made_so may under left (duration_names d) s (layer.Wait at) (term.Wait at) v (term.rolls-Wait at) refl
        (newly_same under s v (lasts.names_same ∙ same.names_same))
        (brings_from table scope inner w sight laws (duration_names d) s t v same.operands_same lasts.brings)
        (λ whole nums l. refl))));
  }

  template_part : (spot : Spot) (t : Template) → Keeps (template_names t) (plain (λ under left s. leaf_template_read table scope inner spot under left t s))
  unfolding leaf_template_read
  template_part spot t = record {
    reads = λ may under left s.
        thus_then (TemplateSo table scope inner w sight laws names under left t s) (So false may under left (template_names t) s) (template_read table scope inner spot under left t s) (λ x u. went (term.Template x) u) (template_keeps table scope inner w sight laws names spot under left t s)
        (λ x u m. thus_went (So false may under left (template_names t) s) (term.Template x) u
        (made_so may under left (template_names t) s (layer.Template x) (term.Template x) u (term.rolls-Template x) refl m.newly m.brings (λ whole nums l. m.lawful whole.known nums l)));
  }

  -- ---- every event expression

  abbrev node_of : EventNode → Spot → Part
  node_of = fold-EventNode (Spot → Part) Part (node_step table scope inner) (expr_step table scope inner)

  abbrev node_names : EventNode → List ℕ → Bool
  node_names = fold-EventNode (List ℕ → Bool) (List ℕ → Bool) event_node event_step

  record ForNode (n : EventNode) : Type 0 where
    at_spot : (spot : Spot) → Keeps (node_names n) (node_of n spot)

  abbrev N : Type 0
  N = (n : EventNode) × ForNode n

  abbrev ForTree : EventExpr → Type 0
  ForTree e = ForExpr table scope inner w sight laws names e

  abbrev node_trees : EventNode-F N Tree → EventNode-F EventNode EventExpr
  node_trees y = map-EventNode N Tree EventNode EventExpr (λ e. e.0) (λ e. e.0) y

  abbrev node_parts : EventNode-F EventNode EventExpr → EventNode-F (Spot → Part) Part
  node_parts x = map-EventNode EventNode EventExpr (Spot → Part) Part node_of (reading.part_of table scope inner) x

  abbrev names_in : EventNode-F EventNode EventExpr → EventNode-F (List ℕ → Bool) (List ℕ → Bool)
  names_in x = map-EventNode EventNode EventExpr (List ℕ → Bool) (List ℕ → Bool) node_names event_names x

  node_at : (y : EventNode-F N Tree) (spot : Spot) → Keeps (event_node (names_in (node_trees y))) (node_step table scope inner (node_parts (node_trees y)) spot)
  unfolding or_read xor_read and_read joined_behind
  node_at (node.Followed first rest) spot = followed_part first rest
  node_at (node.Or first rest) spot = chained_part term.Or false false first rest (plain_so term.Or layer.Or term.rolls-Or (λ head tail. (refl, λ nums. refl)) first rest)
  node_at (node.Xor first rest) spot = chained_part term.Xor false false first rest (plain_so term.Xor layer.Xor term.rolls-Xor (λ head tail. (refl, λ nums. refl)) first rest)
  node_at (node.And first rest) spot = chained_part term.And (may_begin (parts_of rest)) true first rest (and_so first rest)
  node_at (node.All x) spot = all_part x
  node_at (node.Not x) spot = not_part spot x
  node_at (node.Group x within) spot = group_part spot x within
  node_at (node.Wait d) spot = wait_part spot d
  node_at (node.Template t) spot = template_part spot t

  node_case : (x : EventNode-F EventNode EventExpr) (y : EventNode-F N Tree) → node_trees y ≡ x → ForNode (roll-EventNode x)
  node_case x y is = subst (λ (z : EventNode-F EventNode EventExpr). ForNode (roll-EventNode z)) is (record {
    at_spot = λ spot.
        subst (λ (f : Spot → Part). Keeps (node_names (roll-EventNode (node_trees y))) (f spot)) (sym (fold-roll-EventNode (Spot → Part) Part (node_step table scope inner) (expr_step table scope inner) (node_trees y)))
        (subst (λ (f : List ℕ → Bool). Keeps f (node_step table scope inner (node_parts (node_trees y)) spot)) (sym (fold-roll-EventNode (List ℕ → Bool) (List ℕ → Bool) event_node event_step (node_trees y)))
        (node_at y spot));
  })

  abbrev expr_trees : EventExpr-F N Tree → EventExpr-F EventNode EventExpr
  expr_trees y = map-EventExpr N Tree EventNode EventExpr (λ e. e.0) (λ e. e.0) y

  expr_case : (x : EventExpr-F EventNode EventExpr) (y : EventExpr-F N Tree) → expr_trees y ≡ x → ForTree (roll-EventExpr x)
  expr_case x y is = subst (λ (z : EventExpr-F EventNode EventExpr). ForTree (roll-EventExpr z)) is
      (subst (λ (p : Part). Keeps (event_names (roll-EventExpr (expr_trees y))) p) (sym (fold-roll-EventExpr (Spot → Part) Part (node_step table scope inner) (expr_step table scope inner) (expr_trees y)))
      (subst (λ (f : List ℕ → Bool). Keeps f (expr_step table scope inner (map-EventExpr EventNode EventExpr (Spot → Part) Part node_of (reading.part_of table scope inner) (expr_trees y)))) (sym (fold-roll-EventExpr (List ℕ → Bool) (List ℕ → Bool) event_node event_step (expr_trees y)))
      (let n = y.node.1 in n.at_spot y.spot)))

  -- for every event expression
  pub expr_keeps : (e : EventExpr) → ForTree e
  expr_keeps = ind-EventExpr ForNode ForTree node_case expr_case
