-- The tokens of one spelling, and their kinds.
use Rattle.std.proofs.Common.{◌≡◌, true, refl, ap, ◌∙◌}
use Rattle.c_tokens.specs.declared.fixed.Fixed.{Fixed}
use Rattle.c_tokens.specs.declared.fixed.Fixed.TheVariants as f
use Rattle.c_tokens.specs.declared.kind.Kind.{Kind}
use Rattle.c_tokens.specs.declared.kind.Kind.TheVariants as k
use Rattle.c_tokens.specs.Fixed.{kind_of, is_kind_of, HasOneKind}

-- a kind that passes the test of a word is its kind
kind_of-tested : (word : Fixed) (kind : Kind) → is_kind_of word kind ≡ true → kind ≡ kind_of word
kind_of-tested f.MarkWord k.MarkWord is = refl
kind_of-tested f.Break k.Break is = refl
kind_of-tested f.Continue k.Continue is = refl
kind_of-tested f.Do k.Do is = refl
kind_of-tested f.Else k.Else is = refl
kind_of-tested f.Extern k.Extern is = refl
kind_of-tested f.For k.For is = refl
kind_of-tested f.If k.If is = refl
kind_of-tested f.Int k.Int is = refl
kind_of-tested f.Long k.Long is = refl
kind_of-tested f.Return k.Return is = refl
kind_of-tested f.Static k.Static is = refl
kind_of-tested f.Void k.Void is = refl
kind_of-tested f.While k.While is = refl
kind_of-tested f.OpenRound k.OpenRound is = refl
kind_of-tested f.CloseRound k.CloseRound is = refl
kind_of-tested f.OpenCurly k.OpenCurly is = refl
kind_of-tested f.CloseCurly k.CloseCurly is = refl
kind_of-tested f.Semicolon k.Semicolon is = refl
kind_of-tested f.Comma k.Comma is = refl
kind_of-tested f.Plus k.Plus is = refl
kind_of-tested f.Minus k.Minus is = refl
kind_of-tested f.Star k.Star is = refl
kind_of-tested f.Slash k.Slash is = refl
kind_of-tested f.Percent k.Percent is = refl
kind_of-tested f.Less k.Less is = refl
kind_of-tested f.LessEq k.LessEq is = refl
kind_of-tested f.Greater k.Greater is = refl
kind_of-tested f.GreaterEq k.GreaterEq is = refl
kind_of-tested f.Equal k.Equal is = refl
kind_of-tested f.NotEqual k.NotEqual is = refl
kind_of-tested f.Amp k.Amp is = refl
kind_of-tested f.AmpAmp k.AmpAmp is = refl
kind_of-tested f.BarBar k.BarBar is = refl
kind_of-tested f.Bang k.Bang is = refl
kind_of-tested f.Question k.Question is = refl
kind_of-tested f.Colon k.Colon is = refl
kind_of-tested f.Assign k.Assign is = refl
kind_of-tested f.PlusAssign k.PlusAssign is = refl
kind_of-tested f.MinusAssign k.MinusAssign is = refl
kind_of-tested f.StarAssign k.StarAssign is = refl
kind_of-tested f.SlashAssign k.SlashAssign is = refl
kind_of-tested f.PercentAssign k.PercentAssign is = refl
kind_of-tested f.PlusPlus k.PlusPlus is = refl
kind_of-tested f.MinusMinus k.MinusMinus is = refl
kind_of-tested _ _ is = absurd cc

-- the kind of a word passes its test
is_kind_of-own : (word : Fixed) → is_kind_of word (kind_of word) ≡ true
is_kind_of-own f.MarkWord = refl
is_kind_of-own _ = refl

-- a token of one spelling has one kind
pub words-kind : HasOneKind
words-kind word kind = (kind_of-tested word kind, λ is. ap (is_kind_of word) is ∙ is_kind_of-own word)
