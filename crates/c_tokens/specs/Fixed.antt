-- The tokens that have one spelling each, and their kinds (ISO C11, 6.4.1 and 6.4.6).
use Rattle.std.specs.Prelude.{◌≡◌, ◌↔◌, Bool, true, false}
use Rattle.c_tokens.specs.declared.fixed.Fixed.{Fixed}
use Rattle.c_tokens.specs.declared.fixed.Fixed.TheVariants as f
use Rattle.c_tokens.specs.declared.kind.Kind.{Kind}
use Rattle.c_tokens.specs.declared.kind.Kind.TheVariants as k

-- the kind of a token of one spelling
abbrev pub kind_of : Fixed → Kind
kind_of f.MarkWord = k.MarkWord
kind_of f.Break = k.Break
kind_of f.Continue = k.Continue
kind_of f.Do = k.Do
kind_of f.Else = k.Else
kind_of f.Extern = k.Extern
kind_of f.For = k.For
kind_of f.If = k.If
kind_of f.Int = k.Int
kind_of f.Long = k.Long
kind_of f.Return = k.Return
kind_of f.Static = k.Static
kind_of f.Void = k.Void
kind_of f.While = k.While
kind_of f.OpenRound = k.OpenRound
kind_of f.CloseRound = k.CloseRound
kind_of f.OpenCurly = k.OpenCurly
kind_of f.CloseCurly = k.CloseCurly
kind_of f.Semicolon = k.Semicolon
kind_of f.Comma = k.Comma
kind_of f.Plus = k.Plus
kind_of f.Minus = k.Minus
kind_of f.Star = k.Star
kind_of f.Slash = k.Slash
kind_of f.Percent = k.Percent
kind_of f.Less = k.Less
kind_of f.LessEq = k.LessEq
kind_of f.Greater = k.Greater
kind_of f.GreaterEq = k.GreaterEq
kind_of f.Equal = k.Equal
kind_of f.NotEqual = k.NotEqual
kind_of f.Amp = k.Amp
kind_of f.AmpAmp = k.AmpAmp
kind_of f.BarBar = k.BarBar
kind_of f.Bang = k.Bang
kind_of f.Question = k.Question
kind_of f.Colon = k.Colon
kind_of f.Assign = k.Assign
kind_of f.PlusAssign = k.PlusAssign
kind_of f.MinusAssign = k.MinusAssign
kind_of f.StarAssign = k.StarAssign
kind_of f.SlashAssign = k.SlashAssign
kind_of f.PercentAssign = k.PercentAssign
kind_of f.PlusPlus = k.PlusPlus
kind_of f.MinusMinus = k.MinusMinus

-- whether the kind is that of the token of one spelling
abbrev pub is_kind_of : Fixed → Kind → Bool
is_kind_of f.MarkWord k.MarkWord = true
is_kind_of f.Break k.Break = true
is_kind_of f.Continue k.Continue = true
is_kind_of f.Do k.Do = true
is_kind_of f.Else k.Else = true
is_kind_of f.Extern k.Extern = true
is_kind_of f.For k.For = true
is_kind_of f.If k.If = true
is_kind_of f.Int k.Int = true
is_kind_of f.Long k.Long = true
is_kind_of f.Return k.Return = true
is_kind_of f.Static k.Static = true
is_kind_of f.Void k.Void = true
is_kind_of f.While k.While = true
is_kind_of f.OpenRound k.OpenRound = true
is_kind_of f.CloseRound k.CloseRound = true
is_kind_of f.OpenCurly k.OpenCurly = true
is_kind_of f.CloseCurly k.CloseCurly = true
is_kind_of f.Semicolon k.Semicolon = true
is_kind_of f.Comma k.Comma = true
is_kind_of f.Plus k.Plus = true
is_kind_of f.Minus k.Minus = true
is_kind_of f.Star k.Star = true
is_kind_of f.Slash k.Slash = true
is_kind_of f.Percent k.Percent = true
is_kind_of f.Less k.Less = true
is_kind_of f.LessEq k.LessEq = true
is_kind_of f.Greater k.Greater = true
is_kind_of f.GreaterEq k.GreaterEq = true
is_kind_of f.Equal k.Equal = true
is_kind_of f.NotEqual k.NotEqual = true
is_kind_of f.Amp k.Amp = true
is_kind_of f.AmpAmp k.AmpAmp = true
is_kind_of f.BarBar k.BarBar = true
is_kind_of f.Bang k.Bang = true
is_kind_of f.Question k.Question = true
is_kind_of f.Colon k.Colon = true
is_kind_of f.Assign k.Assign = true
is_kind_of f.PlusAssign k.PlusAssign = true
is_kind_of f.MinusAssign k.MinusAssign = true
is_kind_of f.StarAssign k.StarAssign = true
is_kind_of f.SlashAssign k.SlashAssign = true
is_kind_of f.PercentAssign k.PercentAssign = true
is_kind_of f.PlusPlus k.PlusPlus = true
is_kind_of f.MinusMinus k.MinusMinus = true
is_kind_of _ _ = false

-- A token of one spelling has one kind: the test lets no other through.
abbrev pub HasOneKind : Type 0
HasOneKind = (word : Fixed) (kind : Kind) → (is_kind_of word kind ≡ true) ↔ (kind ≡ kind_of word)
