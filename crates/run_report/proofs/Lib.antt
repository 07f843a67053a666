mod Sums
