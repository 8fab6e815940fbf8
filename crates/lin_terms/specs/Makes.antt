-- What a call that makes a form answers: the form that is wanted, or that it is wide.
use Rattle.std.specs.Prelude.{◌≡◌, ◌&&◌, if◌then◌else◌, Option, Some, None, Result, Ok, Err, All}
use Rattle.lin_terms.specs.declared.form.Form.{Form}
use Rattle.lin_terms.specs.declared.row.Row.{Row}
use Rattle.lin_terms.specs.declared.fault.FormFault.{FormFault}
use Rattle.lin_terms.specs.declared.fault.FormFault.TheVariants as fault
use Rattle.lin_terms.specs.declared.fault.ProductFault.{ProductFault}
use Rattle.lin_terms.specs.declared.fault.ProductFault.TheVariants.{NonLinear, WideForm, Memory}
use Rattle.lin_terms.specs.Bounds.{fits_form, fit_form, FitsForm}

-- Each entry of the form is below 2^50 in size.
pub record IsFittingForm (form : Form) : Type 0 where
  pub coefs : All FitsForm form.coefs
  pub constant : FitsForm form.constant

-- the form, where each of its entries is below 2^50 in size
abbrev pub fitting : Form → Option Form
fitting form = if fits_form form.constant && fit_form form.coefs then Some form else None

-- The call makes the wanted form, and refuses it as wide exactly where there is none, unless memory runs out.
abbrev pub Makes : Result Form FormFault → Option Form → Type 0
Makes (Ok form) wanted = wanted ≡ Some form
Makes (Err fault.WideForm) wanted = wanted ≡ None
Makes (Err fault.Memory) wanted = Unit {0}

-- The same of a row.
abbrev pub MakesRow : Result Row FormFault → Option Row → Type 0
MakesRow (Ok row) wanted = wanted ≡ Some row
MakesRow (Err fault.WideForm) wanted = wanted ≡ None
MakesRow (Err fault.Memory) wanted = Unit {0}

-- The call makes the product, where there is one and its entries are below 2^50 in size. It refuses it as not linear
-- exactly where there is none, and as wide exactly where there is one with a greater entry, unless memory runs out.
abbrev pub MakesProduct : Result Form ProductFault → Option Form → Type 0
MakesProduct (Ok form) None = ⊥
MakesProduct (Ok form) (Some product) = fitting product ≡ Some form
MakesProduct (Err NonLinear) product = product ≡ None
MakesProduct (Err WideForm) None = ⊥
MakesProduct (Err WideForm) (Some product) = fitting product ≡ None
MakesProduct (Err Memory) product = Unit {0}

-- What a refused multiple says of a product.
abbrev pub product_fault_of : FormFault → ProductFault
product_fault_of fault.WideForm = WideForm
product_fault_of fault.Memory = Memory
