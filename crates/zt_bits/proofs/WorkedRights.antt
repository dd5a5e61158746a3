-- Worked requests for rights, and rights that a handle has whole: each holds by computation.
use Rattle.std.proofs.Common.{refl}
use Rattle.std.specs.Prelude.{◌≡◌, Some, None, bit_and}
use Rattle.zt_bits.specs.Tables.{IsSubset, asked_rights}

-- ---- what a request gets

-- bit 31 alone asks for the same rights
pub same_rights : asked_rights 0x80000000 0xd003 ≡ Some 0xd003
same_rights = refl

pub same_rights_of_none : asked_rights 0x80000000 0 ≡ Some 0
same_rights_of_none = refl

pub same_rights_and_more : asked_rights 0x80000001 0xd003 ≡ None
same_rights_and_more = refl

-- any other mask asks for a subset
pub no_rights : asked_rights 0 0xd003 ≡ Some 0
no_rights = refl

pub some_rights : asked_rights 0x4002 0xd003 ≡ Some 0x4002
some_rights = refl

pub all_rights : asked_rights 0xd003 0xd003 ≡ Some 0xd003
all_rights = refl

pub a_right_too_many : asked_rights 0x4004 0xd003 ≡ None
a_right_too_many = refl

pub a_right_of_none : asked_rights 1 0 ≡ None
a_right_of_none = refl

-- ---- what a handle to a channel has

pub has_read : IsSubset 0x4 0xf00e
has_read = refl

pub has_wait_read_and_write : IsSubset 0x400c 0xf00e
has_wait_read_and_write = refl

pub has_nothing : IsSubset 0 0xf00e
has_nothing = refl

pub lacks_duplicate : bit_and 0xf00e 0x1 ≡ 0
lacks_duplicate = refl

pub has_one_of_two : bit_and 0xf00e 0x5 ≡ 0x4
has_one_of_two = refl
