-- Rows that say of a form which sign its values have.
use Rattle.std.specs.Prelude.{◌≡◌, ℤ, pos, negsuc, ◌+ℤ◌, ◌*ℤ◌, ◌≤ℤ◌, ◌<ℤ◌, Bool, true, false, ◌&&◌, if◌then◌else◌, Option, Some, None}
use Rattle.lin_terms.specs.declared.form.Form.{Form}
use Rattle.lin_terms.specs.declared.row.Row.{Row}
use Rattle.lin_terms.specs.declared.sign.Sign.{Sign}
use Rattle.lin_terms.specs.declared.sign.Sign.TheVariants.{Negative, NotPositive, Zero, NotNegative, Positive}
use Rattle.lin_terms.specs.Bounds.{fits_form, fit_form}
use Rattle.lin_terms.specs.Vectors.{scaled}
use Rattle.lin_terms.specs.Tight.{tight_of}

-- The value has the sign.
abbrev pub HasSign : Sign → ℤ → Type 0
HasSign Negative value = value <ℤ pos 0
HasSign NotPositive value = value ≤ℤ pos 0
HasSign Zero value = value ≡ pos 0
HasSign NotNegative value = pos 0 ≤ℤ value
HasSign Positive value = pos 0 <ℤ value

-- what a form is multiplied by in the row that says its sign
abbrev pub factor_of : Sign → ℤ
factor_of Negative = negsuc 0
factor_of NotPositive = negsuc 0
factor_of Zero = pos 1
factor_of NotNegative = pos 1
factor_of Positive = pos 1

-- what is added then: a whole number is above 0 exactly where one less is at least 0
abbrev pub offset_of : Sign → ℤ
offset_of Negative = negsuc 0
offset_of NotPositive = pos 0
offset_of Zero = pos 0
offset_of NotNegative = pos 0
offset_of Positive = negsuc 0

-- Whether the row is an equality.
abbrev pub says_equality : Sign → Bool
says_equality Negative = false
says_equality NotPositive = false
says_equality Zero = true
says_equality NotNegative = false
says_equality Positive = false

-- the row that says that the form has the sign, before it is made tight
abbrev pub sign_row : Sign → Form → Row
sign_row sign form = record {
  coefs = scaled (factor_of sign) form.coefs;
  constant = (factor_of sign *ℤ form.constant) +ℤ offset_of sign;
  equality = says_equality sign;
}

-- the row, where each of its entries is below 2^50 in size
abbrev pub fitting_row : Row → Option Row
fitting_row row = if fits_form row.constant && fit_form row.coefs then Some row else None

-- the tight row, where each entry of the row that it is made of is below 2^50 in size
abbrev pub tight_fitting : Row → Option Row
tight_fitting row = if fits_form row.constant && fit_form row.coefs then Some (tight_of row) else None
