-- The numbers of formats, by which callers in C and the page know them.
use Rattle.std.specs.Prelude.{ℕ}
use Rattle.s390x_format.specs.declared.kind.FormatKind.{FormatKind}
use Rattle.s390x_format.specs.declared.kind.FormatKind.TheVariants as kind

-- a format's number, counted in the order of the manual's names
abbrev pub number_of_format : FormatKind → ℕ
number_of_format kind.E = 0
number_of_format kind.RiA = 1
number_of_format kind.RiB = 2
number_of_format kind.RiC = 3
number_of_format kind.RieA = 4
number_of_format kind.RieD = 5
number_of_format kind.RieF = 6
number_of_format kind.RieG = 7
number_of_format kind.RilA = 8
number_of_format kind.RilB = 9
number_of_format kind.RilC = 10
number_of_format kind.Rr = 11
number_of_format kind.Rre = 12
number_of_format kind.RrfAb = 13
number_of_format kind.RrfCde = 14
number_of_format kind.Rs = 15
number_of_format kind.Rsy = 16
number_of_format kind.Rx = 17
number_of_format kind.Rxy = 18
number_of_format kind.Si = 19
number_of_format kind.Sil = 20
number_of_format kind.Siy = 21
number_of_format kind.VriA = 22
number_of_format kind.VriB = 23
number_of_format kind.VriC = 24
number_of_format kind.VriK = 25
number_of_format kind.VrrA = 26
number_of_format kind.VrrB = 27
number_of_format kind.VrrC = 28
number_of_format kind.VrrD = 29
number_of_format kind.VrrE = 30
number_of_format kind.VrrF = 31
number_of_format kind.VrsA = 32
number_of_format kind.VrsB = 33
number_of_format kind.VrsC = 34
number_of_format kind.Vrx = 35
