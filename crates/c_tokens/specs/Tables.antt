-- The keywords and the operators of C, each with its kind where the profile has it, and the suffixes of constants.
use Rattle.std.specs.Prelude.{List, [], ◌∷◌, ℕ, Option, Some, None, codes, option_map}
use Rattle.std.specs.Borrow.{Bor}
use Rattle.c_tokens.specs.declared.fixed.Fixed.{Fixed}
use Rattle.c_tokens.specs.declared.kind.Kind.{Kind}
use Rattle.c_tokens.specs.declared.kind.Kind.TheVariants as k
use Rattle.c_tokens.specs.Fixed.{kind_of}

-- a row of a table: a spelling, and its kind where the profile has it
abbrev pub Row : Type 0
Row = List ℕ × Option Kind

-- a row of the program's tables, as definitions see it
abbrev pub seen : Bor (List ℕ) × Option Fixed → Row
seen row = (row.0.now, option_map kind_of row.1)

-- the keywords, in the order of ISO C11, 6.4.1
unfoldable pub keywords : List Row
keywords =
    (codes "auto", None) ∷
    (codes "break", Some k.Break) ∷
    (codes "case", None) ∷
    (codes "char", None) ∷
    (codes "const", None) ∷
    (codes "continue", Some k.Continue) ∷
    (codes "default", None) ∷
    (codes "do", Some k.Do) ∷
    (codes "double", None) ∷
    (codes "else", Some k.Else) ∷
    (codes "enum", None) ∷
    (codes "extern", Some k.Extern) ∷
    (codes "float", None) ∷
    (codes "for", Some k.For) ∷
    (codes "goto", None) ∷
    (codes "if", Some k.If) ∷
    (codes "inline", None) ∷
    (codes "int", Some k.Int) ∷
    (codes "long", Some k.Long) ∷
    (codes "register", None) ∷
    (codes "restrict", None) ∷
    (codes "return", Some k.Return) ∷
    (codes "short", None) ∷
    (codes "signed", None) ∷
    (codes "sizeof", None) ∷
    (codes "static", Some k.Static) ∷
    (codes "struct", None) ∷
    (codes "switch", None) ∷
    (codes "typedef", None) ∷
    (codes "union", None) ∷
    (codes "unsigned", None) ∷
    (codes "void", Some k.Void) ∷
    (codes "volatile", None) ∷
    (codes "while", Some k.While) ∷
    (codes "_Alignas", None) ∷
    (codes "_Alignof", None) ∷
    (codes "_Atomic", None) ∷
    (codes "_Bool", None) ∷
    (codes "_Complex", None) ∷
    (codes "_Generic", None) ∷
    (codes "_Imaginary", None) ∷
    (codes "_Noreturn", None) ∷
    (codes "_Static_assert", None) ∷
    (codes "_Thread_local", None) ∷ []

-- the operators and punctuators (6.4.6): none stands before a longer one that begins with it
unfoldable pub operators : List Row
operators =
    (codes "(", Some k.OpenRound) ∷
    (codes ")", Some k.CloseRound) ∷
    (codes "{", Some k.OpenCurly) ∷
    (codes "}", Some k.CloseCurly) ∷
    (codes ";", Some k.Semicolon) ∷
    (codes ",", Some k.Comma) ∷
    (codes "++", Some k.PlusPlus) ∷
    (codes "+=", Some k.PlusAssign) ∷
    (codes "+", Some k.Plus) ∷
    (codes "==", Some k.Equal) ∷
    (codes "=", Some k.Assign) ∷
    (codes "<<=", None) ∷
    (codes "<=", Some k.LessEq) ∷
    (codes "<<", None) ∷
    (codes "<:", None) ∷
    (codes "<%", None) ∷
    (codes "<", Some k.Less) ∷
    (codes ">>=", None) ∷
    (codes ">=", Some k.GreaterEq) ∷
    (codes ">>", None) ∷
    (codes ">", Some k.Greater) ∷
    (codes "--", Some k.MinusMinus) ∷
    (codes "-=", Some k.MinusAssign) ∷
    (codes "->", None) ∷
    (codes "-", Some k.Minus) ∷
    (codes "&&", Some k.AmpAmp) ∷
    (codes "&=", None) ∷
    (codes "&", Some k.Amp) ∷
    (codes "||", Some k.BarBar) ∷
    (codes "|=", None) ∷
    (codes "|", None) ∷
    (codes "!=", Some k.NotEqual) ∷
    (codes "!", Some k.Bang) ∷
    (codes "*=", Some k.StarAssign) ∷
    (codes "*", Some k.Star) ∷
    (codes "?", Some k.Question) ∷
    (codes ":>", None) ∷
    (codes ":", Some k.Colon) ∷
    (codes "[", None) ∷
    (codes "]", None) ∷
    (codes "...", None) ∷
    (codes ".", None) ∷
    (codes "/=", Some k.SlashAssign) ∷
    (codes "/", Some k.Slash) ∷
    (codes "%:%:", None) ∷
    (codes "%=", Some k.PercentAssign) ∷
    (codes "%:", None) ∷
    (codes "%>", None) ∷
    (codes "%", Some k.Percent) ∷
    (codes "^=", None) ∷
    (codes "^", None) ∷
    (codes "~", None) ∷
    (codes "##", None) ∷
    (codes "#", None) ∷ []

-- the suffixes of a constant that the profile has (6.4.4.1): none, and those of the types `long` and `long long`
unfoldable pub suffixes : List (List ℕ)
suffixes = codes "" ∷ codes "l" ∷ codes "L" ∷ codes "ll" ∷ codes "LL" ∷ []
