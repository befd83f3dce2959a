use Rattle.s390x_elf.proofs.symbols.GlobalSymbols.add_function.Goals as goal

pub returns-clause-fits : goal.returns-clause-fits
returns-clause-fits c = record { start = c.extent_of-extent.ensures.start_fits; size = c.extent_of-extent.ensures.size_fits }
