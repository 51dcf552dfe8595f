-- Tokens and their classes.
use Rattle.std.proofs.Common.{◌≡◌, ℕ, ◌+◌, cond, List, Some, None, ap, arith}
use Rattle.std.proofs.lemmas.Bool.Decides.{nat_tests}
use Rattle.grammar_forms.specs.Rule.{contains, has}
use Rattle.grammar_forms.specs.Reader.{item_of}
use Rattle.epl_lexer.specs.declared.token.Token.{Token}
use Rattle.epl_lexer.specs.declared.token.Kind.{Kind}
use Rattle.epl_lexer.specs.declared.token.Kind.TheVariants.{Name, Integer, Decimal, Quoted, Keyword, Sign, End}
use Rattle.primary_parser.specs.Tokens.{kind_at, class_of, row_of, sign, keyword}
use Rattle.primary_parser.specs.Reader.{is_sign, is_keyword, sign_reader, keyword_reader}

sign_class : (number : ℕ) (k : Kind) → is_sign number k ≡ contains (class_of k) (sign number)
sign_class number (Sign n) = grind (arith, nat_tests)
sign_class number (Keyword n) = grind (arith, nat_tests)
sign_class number (Name t) = grind (arith, nat_tests)
sign_class number (Integer t) = grind (arith, nat_tests)
sign_class number (Decimal t) = grind (arith, nat_tests)
sign_class number (Quoted t) = grind (arith, nat_tests)
sign_class number End = grind (arith, nat_tests)

keyword_class : (number : ℕ) (k : Kind) → is_keyword number k ≡ contains (class_of k) (keyword number)
keyword_class number (Sign n) = grind (arith, nat_tests)
keyword_class number (Keyword n) = grind (arith, nat_tests)
keyword_class number (Name t) = grind (arith, nat_tests)
keyword_class number (Integer t) = grind (arith, nat_tests)
keyword_class number (Decimal t) = grind (arith, nat_tests)
keyword_class number (Quoted t) = grind (arith, nat_tests)
keyword_class number End = grind (arith, nat_tests)

-- a sign is an item of its class
pub sign_item : (tokens : List Token) (number at : ℕ) → sign_reader tokens number at ≡ item_of (row_of tokens) (sign number) at
unfolding sign_reader item_of has
sign_item tokens number at = ap (λ b. cond b (Some (tt, at + 1)) None) (sign_class number (kind_at tokens at))

-- a keyword is an item of its class
pub keyword_item : (tokens : List Token) (number at : ℕ) → keyword_reader tokens number at ≡ item_of (row_of tokens) (keyword number) at
unfolding keyword_reader item_of has
keyword_item tokens number at = ap (λ b. cond b (Some (tt, at + 1)) None) (keyword_class number (kind_at tokens at))
