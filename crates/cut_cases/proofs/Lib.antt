mod Letting
